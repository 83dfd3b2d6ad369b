-- The starred known cases of document 01, as one table of statements about the definitions. Definitions only.
use Rattle.std.specs.Prelude.{◌≡◌, false, List, [], ◌∷◌, ℕ, pos, negsuc, length, take, replicate, Float, Ok, Err}
use Rattle.std.specs.Float.{fin, binary32}
use Rattle.std.specs.Float.Ieee.{of_bits, to_bits}
use Rattle.number.specs.Root.{root}
use Rattle.vector.specs.Vector.{vec3, zero_f, one_f, two_f, zero_v}
use Rattle.shape.specs.declared.vertex.Vertex.{Vertex}
use Rattle.shape.specs.Vertex.{single_point}
use Rattle.tetrahedron.specs.declared.Tetrahedron.{Tetrahedron}
use Rattle.tetrahedron.specs.declared.TetrahedronPointLocation.TheVariants.{OnVertex}
use Rattle.tetrahedron.specs.Tetrahedron.{TetrahedronProjection, project_tetrahedron}
use Rattle.simplex.specs.declared.voronoi_simplex.VoronoiSimplex.{VoronoiSimplex}
use Rattle.simplex.specs.Simplex.{simplex_of}
use Rattle.reduction.specs.declared.location.Location.TheVariants.{OnFace}
use Rattle.reduction.specs.Reduction.{apply_location}
use Rattle.heap.specs.Order.{order_of}
use Rattle.epa_polytope.specs.declared.types.Lost.{Lost}
use Rattle.epa_polytope.specs.declared.types.End.TheVariants.{Nothing}
use Rattle.epa_polytope.specs.Stores.{State}
use Rattle.epa_polytope.specs.Steps.{ended, enqueue, queue_face}
use Rattle.casefile.specs.declared.numbers.NumberError.TheVariants.{Malformed}
use Rattle.casefile.specs.Numbers.{encode, read, decode_number}

-- a row of the table
pub data Case : Type 0 where
  root_of : ℕ → ℕ → Case  -- the bits of a number, and of its root
  equal_keys : ℕ → List ℕ → Case  -- so many equal keys, pushed as faces 0, 1, .., and the order in which they pop
  projects : Tetrahedron → TetrahedronProjection → Case  -- the origin on a tetrahedron
  face_acd : List Float → List Float → Case  -- the weights of face acd, and those that the reduction leaves with a, d, c
  accepts : ℕ → ℕ → Case  -- the bits of a tolerance, and of a key that any face is queued with
  refuses : ℕ → ℕ → Case  -- the bits of a tolerance, and of a key that ends the run at once, whatever the face
  travels : Float → List ℕ → Case  -- a number, and its bytes in a case file
  malformed : List ℕ → Case  -- bytes that begin no number

-- a tetrahedron's simplex: four vertices that differ
abbrev pub corner_at : ℕ → Vertex
corner_at n = single_point (vec3 (of_bits binary32 n) zero_f zero_f)

abbrev pub four_corners : VoronoiSimplex
four_corners = let old = zero_f ∷ zero_f ∷ zero_f ∷ [] in simplex_of (0 ∷ 1 ∷ 2 ∷ 3 ∷ []) old 2 (corner_at 0 ∷ corner_at 1 ∷ corner_at 2 ∷ corner_at 3 ∷ []) old 3

-- the reduction to face acd with the given weights
abbrev pub reduced_to : List Float → VoronoiSimplex
reduced_to (u ∷ v ∷ w ∷ []) = (apply_location four_corners (OnFace 2 u v w)).simplex
reduced_to [] = four_corners
reduced_to (u ∷ []) = four_corners
reduced_to (u ∷ v ∷ []) = four_corners
reduced_to (u ∷ v ∷ w ∷ x ∷ l) = four_corners

-- what a row says
abbrev pub Holds : Case → Type 0
Holds (root_of b r) = to_bits binary32 (root binary32 (of_bits binary32 b)) ≡ r
Holds (equal_keys n order) = order_of (replicate n one_f) ≡ order
Holds (projects t p) = project_tetrahedron binary32 t zero_v ≡ Ok p
Holds (face_acd given left) =
    (take 3 (reduced_to given).vertices ≡ corner_at 0 ∷ corner_at 3 ∷ corner_at 2 ∷ []) × ((reduced_to given).proj ≡ left)
Holds (accepts tol key) = (why : Lost) (i : ℕ) (s : State) → queue_face why (of_bits binary32 tol) i (of_bits binary32 key) s ≡ enqueue i (of_bits binary32 key) s
Holds (refuses tol key) = (why : Lost) (i : ℕ) (s : State) → queue_face why (of_bits binary32 tol) i (of_bits binary32 key) s ≡ ended (Nothing why) s
Holds (travels x bytes) = (encode (to_bits binary32 x) ≡ bytes) × (decode_number bytes 0 ≡ read (to_bits binary32 x) (length bytes))
Holds (malformed bytes) = decode_number bytes 0 ≡ Err Malformed

abbrev pub All : List Case → Type 0
All [] = Unit {0}
All (c ∷ cs) = Holds c × All cs

-- the literals 3.0, 0.5, 0.375 and 0.125
abbrev three_f : Float
three_f = fin false 3 (pos 0)

abbrev half : Float
half = fin false 1 (negsuc 0)

abbrev three_eighths : Float
three_eighths = fin false 3 (negsuc 2)

abbrev eighth : Float
eighth = fin false 1 (negsuc 2)

-- The tolerance of the rows on keys is `eps_tol`, 5 · 2^-22, the least that a run has; 35A00001 is the next f32 above it, and 7FC00000 a NaN.
abbrev pub table : List Case
table =
    root_of 0x00000002 0x1A800000
    ∷ root_of 0x40000000 0x3FB504F3
    ∷ root_of 0x7F7FFFFF 0x5F7FFFFF
    ∷ root_of 0x80000000 0x80000000
    ∷ root_of 0xBF800000 0x7FC00000
    ∷ equal_keys 4 (0 ∷ 2 ∷ 1 ∷ 3 ∷ [])
    ∷ equal_keys 3 (0 ∷ 1 ∷ 2 ∷ [])
    ∷ projects (record { a = vec3 one_f one_f one_f; b = vec3 two_f one_f one_f; c = vec3 one_f two_f one_f; d = vec3 one_f one_f two_f }) (record { point = vec3 one_f one_f one_f; location = OnVertex 0 })
    ∷ face_acd (half ∷ three_eighths ∷ eighth ∷ []) (half ∷ eighth ∷ three_eighths ∷ [])
    ∷ accepts 0x35A00000 0x35A00000
    ∷ refuses 0x35A00000 0x35A00001
    ∷ accepts 0x35A00000 0x7FC00000
    ∷ travels one_f (0x80 ∷ 0x80 ∷ 0x80 ∷ 0xFC ∷ 0x03 ∷ [])
    ∷ travels three_f (0x80 ∷ 0x80 ∷ 0x80 ∷ 0x82 ∷ 0x04 ∷ [])
    ∷ malformed (0x81 ∷ 0x00 ∷ [])
    ∷ []
