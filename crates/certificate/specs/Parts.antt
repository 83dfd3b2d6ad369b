-- What the private functions of the checker promise. Definitions only.
use Rattle.std.specs.Prelude.{◌≡◌, List, ℤ}
use Rattle.certificate.specs.declared.GridVector.{GridVector}
use Rattle.certificate.specs.Certificate.{every, above, separated}

-- the products of any second hull are all above n exactly when each is above that of every corner of the first
unfoldable pub Bounds : GridVector → List GridVector → ℤ → Type 0
Bounds d first n = (second : List GridVector) → every (above d n) second ≡ separated d first second
