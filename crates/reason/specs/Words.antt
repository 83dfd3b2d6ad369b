-- The words of each reason, as lists of bytes, and the line of a record (document 02, ticket 5). Definitions only.
use Rattle.std.specs.Prelude.{ℕ, List, [], ◌∷◌, ◌++◌, Option, Some, None, Ok}
use Rattle.lines.specs.Text.{After, after, place_of, decimal_of}
use Rattle.reason.specs.declared.reasons.Reason.{Reason}

unfoldable pub words_of : Reason → List ℕ
-- `panic site`
words_of Reason.PanicSite = 112 ∷ 97 ∷ 110 ∷ 105 ∷ 99 ∷ 32 ∷ 115 ∷ 105 ∷ 116 ∷ 101 ∷ []
-- `no room`
words_of Reason.NoRoom = 110 ∷ 111 ∷ 32 ∷ 114 ∷ 111 ∷ 111 ∷ 109 ∷ []
-- `converged`
words_of Reason.Converged = 99 ∷ 111 ∷ 110 ∷ 118 ∷ 101 ∷ 114 ∷ 103 ∷ 101 ∷ 100 ∷ []
-- `stuck`
words_of Reason.Stuck = 115 ∷ 116 ∷ 117 ∷ 99 ∷ 107 ∷ []
-- `a new face nearer than the current one`
words_of Reason.NearerFace =
    97 ∷ 32 ∷ 110 ∷ 101 ∷ 119 ∷ 32 ∷ 102 ∷ 97 ∷ 99 ∷ 101 ∷ 32 ∷ 110 ∷ 101 ∷ 97 ∷ 114 ∷ 101 ∷ 114 ∷ 32 ∷
    116 ∷ 104 ∷ 97 ∷ 110 ∷ 32 ∷ 116 ∷ 104 ∷ 101 ∷ 32 ∷ 99 ∷ 117 ∷ 114 ∷ 114 ∷ 101 ∷ 110 ∷ 116 ∷ 32 ∷ 111 ∷ 110 ∷ 101 ∷ []
-- `101 expansions`
words_of Reason.EnoughExpansions = 49 ∷ 48 ∷ 49 ∷ 32 ∷ 101 ∷ 120 ∷ 112 ∷ 97 ∷ 110 ∷ 115 ∷ 105 ∷ 111 ∷ 110 ∷ 115 ∷ []
-- `heap empty`
words_of Reason.HeapEmpty = 104 ∷ 101 ∷ 97 ∷ 112 ∷ 32 ∷ 101 ∷ 109 ∷ 112 ∷ 116 ∷ 121 ∷ []
-- `degenerate start`
words_of Reason.DegenerateStart = 100 ∷ 101 ∷ 103 ∷ 101 ∷ 110 ∷ 101 ∷ 114 ∷ 97 ∷ 116 ∷ 101 ∷ 32 ∷ 115 ∷ 116 ∷ 97 ∷ 114 ∷ 116 ∷ []
-- `key refused at the start`
words_of Reason.KeyAtStart =
    107 ∷ 101 ∷ 121 ∷ 32 ∷ 114 ∷ 101 ∷ 102 ∷ 117 ∷ 115 ∷ 101 ∷ 100 ∷ 32 ∷ 97 ∷ 116 ∷ 32 ∷
    116 ∷ 104 ∷ 101 ∷ 32 ∷ 115 ∷ 116 ∷ 97 ∷ 114 ∷ 116 ∷ []
-- `no starting face holding the projection`
words_of Reason.NoneHolds =
    110 ∷ 111 ∷ 32 ∷ 115 ∷ 116 ∷ 97 ∷ 114 ∷ 116 ∷ 105 ∷ 110 ∷ 103 ∷ 32 ∷ 102 ∷ 97 ∷ 99 ∷ 101 ∷ 32 ∷
    104 ∷ 111 ∷ 108 ∷ 100 ∷ 105 ∷ 110 ∷ 103 ∷ 32 ∷ 116 ∷ 104 ∷ 101 ∷ 32 ∷ 112 ∷ 114 ∷ 111 ∷ 106 ∷ 101 ∷ 99 ∷ 116 ∷ 105 ∷ 111 ∷ 110 ∷ []
-- `empty silhouette`
words_of Reason.NoSilhouette = 101 ∷ 109 ∷ 112 ∷ 116 ∷ 121 ∷ 32 ∷ 115 ∷ 105 ∷ 108 ∷ 104 ∷ 111 ∷ 117 ∷ 101 ∷ 116 ∷ 116 ∷ 101 ∷ []
-- `all silhouette faces deleted`
words_of Reason.AllDeleted =
    97 ∷ 108 ∷ 108 ∷ 32 ∷ 115 ∷ 105 ∷ 108 ∷ 104 ∷ 111 ∷ 117 ∷ 101 ∷ 116 ∷ 116 ∷ 101 ∷ 32 ∷
    102 ∷ 97 ∷ 99 ∷ 101 ∷ 115 ∷ 32 ∷ 100 ∷ 101 ∷ 108 ∷ 101 ∷ 116 ∷ 101 ∷ 100 ∷ []
-- `key refused later`
words_of Reason.KeyLater = 107 ∷ 101 ∷ 121 ∷ 32 ∷ 114 ∷ 101 ∷ 102 ∷ 117 ∷ 115 ∷ 101 ∷ 100 ∷ 32 ∷ 108 ∷ 97 ∷ 116 ∷ 101 ∷ 114 ∷ []

-- a record's number, a space and the words
unfoldable pub reason_line : ℕ → Reason → List ℕ
reason_line number r = decimal_of number ++ 32 ∷ [] ++ words_of r ++ 10 ∷ []

-- the line of a record that has a reason goes to the output's places from `at` on; of one that has none there is no line, and the place stays
abbrev pub reason_placed : List ℕ → ℕ → ℕ → Option Reason → After
reason_placed o at number (Some r) = place_of o at (reason_line number r)
reason_placed o at number None = after o (Ok at)
