-- A case of a format's values that is written is read back as itself: its words stand for it, and f32's are valid, as a number of a case file has 32 bits. By the bits of each float.
-- Assumes nothing.
use Prim.Native.Nat.{ℕ, ◌+◌, ◌^◌, ◌<◌}
use mathlib.Core.Path.{◌≡◌, refl, ◌∙◌, ap}
use mathlib.Core.Bool.{Bool, true, false}
use mathlib.Core.List.{List, [], ◌∷◌, ◌++◌}
use native.Mathlib.Omega.{arith}
use lib.ListN.{length}
use lib.Dec.{T, eqb}
use lib.Ieee.{Float, Format, binary32, binary64, fits, of_bits, to_bits}
use lib.Ieee.Bits.{of_bits-to_bits, to_bits-lt}
use Rattle.vector.specs.declared.vec3.Vec3.{Vec3}
use Rattle.shape.specs.declared.support.Shape.{Shape}
use Rattle.shape.specs.declared.support.Shape.TheVariants.{Ball, Cuboid, Capsule, Triangle}
use Rattle.casefile.specs.declared.records.Case.{Case}
use Rattle.std.specs.Prelude.{Ok}
use Rattle.casefile.specs.Numbers.{got}
use Rattle.casefile.specs.Records.{shape_in, shape_of, pose_of, case_of, read_case, encode_case, bits_of, vector_words, pose_words, shape_words, shape_numbers, flag_of, words_of}
use Rattle.writing.proofs.RecordTrip.{Small, small-append, ValidShape, Valid, encoded-case-between}

flag-back : (e : Bool) → eqb (flag_of e) 1 ≡ e
flag-back true = refl
flag-back false = refl

flag_small : (e : Bool) → flag_of e < 2
flag_small true = omega arith
flag_small false = omega arith

module _ (f : Format) where
  -- x is a value of the format
  abbrev F : Float → Type 0
  F x = T (fits f x)

  abbrev pub HeldVector : Vec3 → Type 0
  HeldVector v = F v.x × F v.y × F v.z

  abbrev pub HeldShape : Shape → Type 0
  HeldShape (Ball r) = F r
  HeldShape (Cuboid x y z) = F x × F y × F z
  HeldShape (Capsule ax ay az bx by bz r) = F ax × F ay × F az × F bx × F by × F bz × F r
  HeldShape (Triangle ax ay az bx by bz cx cy cz) = F ax × F ay × F az × F bx × F by × F bz × F cx × F cy × F cz

  -- every float of a case is one
  pub record Held (c : Case) : Type 0 where
    pub g1 : HeldShape c.g1
    pub g2 : HeldShape c.g2
    pub turned : F c.pos12.rotation.x × F c.pos12.rotation.y × F c.pos12.rotation.z × F c.pos12.rotation.w
    pub moved : HeldVector c.pos12.translation
    pub dir : HeldVector c.dir
    pub most : F c.max_dist

  back : (x : Float) → F x → of_bits f (to_bits f x) ≡ x
  back x h = of_bits-to_bits f x h

  -- ---- what the words stand for

  shape-back : (g : Shape) → HeldShape g → shape_of f (shape_words f g) ≡ g
  unfolding shape_words shape_in
  shape-back (Ball r) h = simp (back r h)
  shape-back (Cuboid x y z) h = simp (back x h.0, back y h.1, back z h.2)
  shape-back (Capsule ax ay az bx by bz r) h =
      simp (back ax h.0, back ay h.1, back az h.2, back bx h.3, back by h.4, back bz h.5, back r h.6)
  shape-back (Triangle ax ay az bx by bz cx cy cz) h =
      simp (back ax h.0, back ay h.1, back az h.2, back bx h.3, back by h.4, back bz h.5, back cx h.6, back cy h.7, back cz h.8)

  pub stands-for : (c : Case) → Held c → case_of f (words_of f c) ≡ c
  unfolding case_of words_of pose_of
  stands-for c h =
      let q = c.pos12.rotation in
      let m = c.pos12.translation in
      let d = c.dir in
      simp (shape-back c.g1 h.g1, shape-back c.g2 h.g2, back q.x h.turned.0, back q.y h.turned.1, back q.z h.turned.2, back q.w h.turned.3, back m.x h.moved.0, back m.y h.moved.1, back m.z h.moved.2, back d.x h.dir.0, back d.y h.dir.1, back d.z h.dir.2, back c.max_dist h.most, flag-back c.exact)

  -- ---- that they are valid

  shape-valid : (g : Shape) → ValidShape (shape_words f g)
  unfolding shape_words
  shape-valid (Ball r) = record { kind = omega arith; count = refl }
  shape-valid (Cuboid x y z) = record { kind = omega arith; count = refl }
  shape-valid (Capsule ax ay az bx by bz r) = record { kind = omega arith; count = refl }
  shape-valid (Triangle ax ay az bx by bz cx cy cz) = record { kind = omega arith; count = refl }

-- a word of the format is a number of a case file, of 32 bits
abbrev pub Short : Format → Type 0
Short binary32 = Unit
Short binary64 = ⊥

short-word : (f : Format) → Short f → (x : Float) → F f x → bits_of f x < 2 ^ 32
short-word binary32 s x h = to_bits-lt binary32 x h
short-word binary64 s x h = absurd s

module _ (f : Format) (short : Short f) where
  low : (x : Float) → F f x → bits_of f x < 2 ^ 32
  low x h = short-word f short x h

  shape-small : (g : Shape) → HeldShape f g → Small (shape_numbers (shape_words f g))
  unfolding shape_words
  shape-small (Ball r) h = (omega arith, (low r h, tt))
  shape-small (Cuboid x y z) h = (omega arith, (low x h.0, (low y h.1, (low z h.2, tt))))
  shape-small (Capsule ax ay az bx by bz r) h =
      (omega arith, (low ax h.0, (low ay h.1, (low az h.2, (low bx h.3, (low by h.4, (low bz h.5, (low r h.6, tt))))))))
  shape-small (Triangle ax ay az bx by bz cx cy cz) h =
      (omega arith, (low ax h.0, (low ay h.1, (low az h.2, (low bx h.3, (low by h.4, (low bz h.5, (low cx h.6, (low cy h.7, (low cz h.8, tt))))))))))

  pub valid : (c : Case) → Held f c → Valid (words_of f c)
  unfolding words_of
  valid c h =
      let q = c.pos12.rotation in
      let m = c.pos12.translation in
      let d = c.dir in
      let two = flag_small c.exact in
      let e : Small (flag_of c.exact ∷ []) = (omega arith, tt) in
      let a = shape-small c.g1 h.g1 in
      let b = shape-small c.g2 h.g2 in
      let ga : List ℕ = shape_numbers (shape_words f c.g1) in
      let gb : List ℕ = shape_numbers (shape_words f c.g2) in
      let ns : List ℕ = pose_words f c.pos12 ++ vector_words f c.dir ++ bits_of f c.max_dist ∷ [] in
      let n : Small ns = (low q.x h.turned.0, (low q.y h.turned.1, (low q.z h.turned.2, (low q.w h.turned.3, (low m.x h.moved.0, (low m.y h.moved.1, (low m.z h.moved.2, (low d.x h.dir.0, (low d.y h.dir.1, (low d.z h.dir.2, (low c.max_dist h.most, tt))))))))))) in
      record {
        first = shape-valid f c.g1;
        second = shape-valid f c.g2;
        count = refl;
        flag = omega arith;
        small = small-append (ga ++ gb ++ ns) (flag_of c.exact ∷ []) (small-append (ga ++ gb) ns (small-append ga gb a b) n) e;
      }

  -- what is written is read back, wherever it stands and whatever follows
  pub written : (c : Case) (p t : List ℕ) → Held f c → read_case f (p ++ (encode_case (words_of f c) ++ t)) (length p) ≡ Ok (got c (length p + length (encode_case (words_of f c))))
  written c p t h =
      encoded-case-between f (words_of f c) p t (valid c h)
      ∙ ap (λ (d : Case). Ok (got d (length p + length (encode_case (words_of f c))))) (stands-for f c h)
