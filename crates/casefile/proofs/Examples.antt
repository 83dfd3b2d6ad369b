-- A fifth group of 16 is malformed, computed. Document 01's known cases of numbers are in the crate known. Assumes nothing.
use mathlib.Core.Path.{◌≡◌, refl}
use mathlib.Core.List.{[], ◌∷◌}
use Rattle.std.specs.Prelude.{Err}
use Rattle.casefile.specs.declared.numbers.NumberError.TheVariants.{Malformed}
use Rattle.casefile.specs.Numbers.{later_in, first_of, decode_number}

pub fifth-of-16 : decode_number (0x80 ∷ 0x80 ∷ 0x80 ∷ 0x80 ∷ 0x10 ∷ []) 0 ≡ Err Malformed
unfolding decode_number first_of later_in
fifth-of-16 = refl
