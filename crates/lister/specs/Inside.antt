-- For the functions inside: no public contract cites this file.
--     text_of r                  the text of a line
--     IsMap g                    g is the table of an accepted map
-- Assumes nothing.
use Rattle.std.specs.Prelude.{ℕ, ◌≡◌, true, List, drop}
use Rattle.maps.specs.Given.{Given}
use Rattle.maps.specs.Verdict.{accepts}
use Rattle.labels.specs.Judging.{check_answer}
use Rattle.lister.specs.declared.line.Line.{Line}

-- what stands at the end of the array
abbrev pub text_of : Line → List ℕ
text_of r = drop r.start r.bytes

-- the plain check accepts it
abbrev pub IsMap : Given → Type 0
IsMap g = accepts (check_answer g) ≡ true
