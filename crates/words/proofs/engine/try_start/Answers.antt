use Rattle.std.proofs.Common.{◌≡◌, ℕ, List, take, length, sym, ap, ◌∙◌}
use Rattle.maps.specs.Given.{map_of}
use Rattle.labels.proofs.Reached.{labelling_numbers}
use Rattle.labels.proofs.Inside.{holds_length}
use Rattle.words.proofs.Usable.{usable, placed}
use Rattle.words.proofs.engine.try_start.Goals as goal

-- a queue that has all darts is the array's first m numbers
taken-all : (queue q : List ℕ) (given m : ℕ) → take given queue ≡ q → length q ≡ given → length q ≡ m → take m queue ≡ q
taken-all queue q given m is few all = let same : m ≡ given = sym all ∙ few in rw same is

pub forget-requires : goal.forget-requires
forget-requires c =
    let raced = c.race-course.ensures in
    record {
      holds = raced.holds;
      inside = λ k low high. placed c.args.map.now _ (raced.good.of_darts k low (rw (holds_length raced.holds) high));
    }

pub returns : goal.returns
unfolding map_of
returns c =
    let raced = c.race-course.ensures in
    record {
      came = raced.came;
      whole = λ on all-rows.
          let is = raced.whole on all-rows in
          taken-all _ _ _ _ is (ap length (sym is) ∙ holds_length raced.holds) (labelling_numbers (usable c.args.map.now).taken _ c.requires.dart).long;
    }
