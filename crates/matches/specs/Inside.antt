-- For the functions inside: no public contract cites this file.
--     not_kept a b f       the least dart of which some βi is not kept, or 0
--     judge_images a b f   11 and 12
-- Assumes nothing.
use Rattle.std.specs.Prelude.{ℕ, List, [], ◌∷◌, eqb, length}
use Rattle.maps.specs.Least.{least}
use Rattle.maps.specs.Given.{Given, map_of}
use Rattle.maps.specs.Verdict.{Verdict, unless, at_least, in_order}
use Rattle.matches.specs.Judge.{bad_image, parts}

unfoldable pub not_kept : Given → Given → List ℕ → ℕ
not_kept a b f = least a.m (parts (map_of a) (map_of b) f)

-- 11 and 12, once n and m are the same
unfoldable pub judge_images : Given → Given → List ℕ → Verdict
judge_images a b f =
    in_order
    (unless (eqb (length f) a.m) 11 0
    ∷ at_least 11 (bad_image a.m f)
    ∷ at_least 12 (not_kept a b f)
    ∷ [])
