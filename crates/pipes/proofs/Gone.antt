-- What reads bring into the input is what the reader then has no more: of one read into a part (`part-read`), and of one read after others (`read-more`), where what came before stays (`fewer-kept`). Assumes nothing.
use Prim.Native.Nat.{ℕ, ◌+◌, ◌-◌, ◌≤◌}
use mathlib.Core.Path.{◌≡◌, refl, sym, ap, subst, ◌∙◌}
use mathlib.Core.List.{List, ◌++◌}
use mathlib.Core.Bool.{Bool, true, false, cond}
use native.Mathlib.Omega.{arith}
use lib.ListN.{length, take, drop}
use lib.Seq.{take-add, take-take}
use borrow.Rule.Slice.PartMut.{put_mid}
use Rattle.std.specs.List.{between}
use Rattle.std.specs.Io.KnownBytes.{Consumes}
use Rattle.std.proofs.Common.{Option}
use Rattle.std.proofs.KnownBytes.{Consumes-trans}
use Rattle.std.proofs.lemmas.List.{drop-take, drop-drop}
use Rattle.std.proofs.lemmas.Slice.{between_is, between-put_mid}
use Rattle.window.specs.declared.Window.{Window}
use Rattle.pipes.specs.Bytes.{Taken}
use Rattle.pipes.specs.Pipes.{enough_of, Kept}

pub part-read : (at n : ℕ) (xs ys : List ℕ) → at ≤ length xs → length ys ≡ length xs - at → n ≤ length ys → between at (at + n) (put_mid at (length xs - at) xs ys) ≡ take n ys
part-read at n xs ys a l h =
    let all = put_mid at (length xs - at) xs ys in
    let part : take (length ys) (drop at all) ≡ ys = sym (drop-take at (length ys) all) ∙ sym (between_is all at (at + length ys)) ∙ between-put_mid at (length xs - at) xs ys (at + length ys) a (omega arith) in
    between_is all at (at + n) ∙ drop-take at n all ∙ sym (take-take n (length ys) (drop at all) h) ∙ ap (take n) part

-- the bytes from a on are the first b - a of those
cut : (a b : ℕ) (l : List ℕ) → a ≤ b → between a b l ≡ take (b - a) (drop a l)
cut a b l h = between_is l a b ∙ ap (λ n. drop a (take n l)) (omega (arith, h)) ∙ drop-take a (b - a) l

seam : (a b c : ℕ) (l : List ℕ) → a ≤ b → b ≤ c → between a c l ≡ between a b l ++ between b c l
seam a b c l h k =
    let later : drop (b - a) (drop a l) ≡ drop b l = drop-drop (b - a) a l ∙ ap (λ n. drop n l) (omega (arith, h)) in
    cut a c l (omega (arith, h, k)) ∙ ap (λ n. take n (drop a l)) (omega (arith, h, k)) ∙ take-add (b - a) (c - b) (drop a l)
    ∙ ap (λ x. take (b - a) (drop a l) ++ take (c - b) x) later ∙ sym (rw (cut a b l h, cut b c l k) refl)

-- after reads up to b, which stay, one up to c
one-more : (p q r : Option (List ℕ)) (a b c : ℕ) (s t : List ℕ) → a ≤ b → b ≤ c → take b t ≡ take b s → Consumes p q (between a b s) → Consumes q r (between b c t) → Consumes p r (between a c t)
one-more p q r a b c s t h k kept first second =
    let same : between a b t ≡ between a b s = between_is t a b ∙ ap (drop a) kept ∙ sym (between_is s a b) in
    subst (Consumes p r) (sym (seam a b c t h k ∙ ap (λ x. x ++ between b c t) same)) (Consumes-trans p q r _ _ first second)

pub fewer-kept : {m n : ℕ} {s t u : List ℕ} → m ≤ n → Kept m s t → Kept n t u → Kept m s u
fewer-kept {m} {n} {s} {t} {u} h e f = record { bytes = sym (take-take m n u h) ∙ ap (take m) f.bytes ∙ take-take m n t h ∙ e.bytes }

not_ended : (ended x : Bool) → cond ended true x ≡ false → ended ≡ false
not_ended true x e = e
not_ended false x e = refl

-- of windows: one that has not enough is not at the file's end
pub read-more : {p q r : Option (List ℕ)} {w v u : Window} {s t : List ℕ} → Taken p q w v s → enough_of v ≡ false → Kept v.until s t → Taken q r v u t → Taken p r w u t
read-more {p} {q} {r} {w} {v} {u} {s} {t} g few kept h = record {
  more = omega (arith, g.more, h.more);
  gone = one-more p q r w.until v.until u.until s t g.more h.more kept.bytes g.gone h.gone;
  end = λ _ e. h.end (not_ended v.ended _ few) e;
}
