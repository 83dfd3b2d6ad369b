-- What a run over records needs, whatever is run: the proofs of other crates cite it too. Assumes nothing.
--     on-records                   a run on the numbers of a store's first records, left as records there, is the run on the store's first records
use mathlib.Core.Path.{◌≡◌, ap, ◌∙◌}
use Prim.Native.Nat.{ℕ}
use mathlib.Core.List.{List}
use lib.ListN.{length}
use lib.Ieee.{Float}
use Rattle.edges.specs.declared.Edge.{Edge}
use Rattle.edges.specs.Edges.{over, records, pairs_of, row_of, numbers_of}
use Rattle.edges.proofs.Laws.{numbers-handed, numbers-back}
use Rattle.epa_polytope.specs.Stores.{Lists}
use Rattle.epa.specs.Final.{Final, final, lists_of}
use Rattle.epa_lent.specs.Lent.{beyond, on_first}

pub on-records : {A : Type 0} {a : A} {v x hk v' x' hk' : List Float} {i d hi p i' d' hi' p' row left : List ℕ} {fs : List Edge} (run : Lists → Final A) (es : List Edge) → row ≡ numbers_of (row_of es)
    → length left ≡ length row → fs ≡ over (records left) es → final a (lists_of v' i' x' d' left hi' hk' p') ≡ run (lists_of v i x d row hi hk p)
    → final a (lists_of v' i' x' d' (pairs_of fs) hi' hk' p') ≡ on_first run (lists_of v i x d (pairs_of es) hi hk p)
on-records {A} {a} {v} {x} {hk} {v'} {x'} {hk'} {i} {d} {hi} {p} {i'} {d'} {hi'} {p'} {row} {left} {fs} run es shows same leaves e =
    ap (λ (us : List ℕ). final a (lists_of v' i' x' d' us hi' hk' p')) (ap pairs_of leaves ∙ numbers-back left es (same ∙ ap length shows))
    ∙ ap (beyond (pairs_of es)) (e ∙ ap (λ (us : List ℕ). run (lists_of v i x d us hi hk p)) (shows ∙ numbers-handed es))
