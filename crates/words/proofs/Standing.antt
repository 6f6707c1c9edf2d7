-- How a start stands against the word held, number by number, and what its race leaves.
--     Standing              p numbers of the word W are judged: `held₀` was held, and `held` is now
--     Ended                 how W comes out, and what is then held
--     standing_start        before any number
--     standing_turn         one number more, where the start is not left
--     standing_left         the number at which it is left
--     standing_end          all numbers are judged
-- Assumes nothing.
use Prim.Native.Nat.{ℕ, suc, ◌+◌, ◌≤◌, ◌<◌}
use mathlib.Core.Path.{◌≡◌, refl, sym, ap, ◌∙◌}
use mathlib.Core.Bool.{Bool, true, false, cond}
use mathlib.Core.List.{List, [], ◌∷◌, ◌++◌}
use native.Mathlib.Omega.{arith}
use native.Mathlib.Numerals.{add-one}
use lib.ListN.{length, get_or, set, take, drop, length-set, take-append-drop}
use lib.Seq.{take-suc, drop-drop, take-suc-set, drop-set-lt, get_or-take, take-take, length-take-le, take-length}
use Rattle.std.specs.declared.cmp.Ordering.{Ordering}
use Rattle.std.specs.declared.cmp.Ordering.TheVariants.{Less, Equal, Greater}
use Rattle.std.specs.Ordering.{nat_cmp, MatchOrdering}
use Rattle.std.specs.Cmp.{ranks}
use Rattle.maps.proofs.Least.{true_not_false}
use Rattle.words.specs.Words.{less, lesser}
use Rattle.words.specs.Sign.{over}
use Rattle.words.specs.Inside.{side_of, side_after, leaves_at, Weighed}
use Rattle.words.proofs.Lexicographic.{less_at}
use Rattle.words.proofs.Starts.{less_side, same_side, greater_side, lesser_less, lesser_same, lesser_greater}

-- p numbers of W are judged against what `held₀` holds: the same so far; or W is less, the word not firm, and W is being written
pub record Standing (W held₀ held : List ℕ) (firm : Bool) (side : Ordering) (p : ℕ) : Type 0 where
  pub long : length held ≡ length held₀
  pub high : p ≤ length W
  pub agrees : take p held ≡ take p W
  pub rest : drop p held ≡ drop p held₀
  pub on : leaves_at firm side ≡ false
  pub tied : side ≡ Equal → held ≡ held₀
  pub won : side ≡ Less → less W (take (length W) held₀) ≡ true

-- how W comes out, and what is held once it has
pub record Ended (W held₀ held : List ℕ) (firm : Bool) (side : Ordering) : Type 0 where
  pub outcome : side ≡ side_of W (take (length W) held₀)
  pub best : held ≡ cond firm held₀ (over (lesser (take (length W) held₀) W) held₀)

pub standing_start : (W held : List ℕ) (firm : Bool) → Standing W held held firm Equal 0
unfolding leaves_at
standing_start W held firm =
    record {
      long = refl;
      high = omega arith;
      agrees = refl;
      rest = refl;
      on = refl;
      tied = λ z. refl;
      won = λ z. absurd (let y : ◌≡◌ {A = ℕ} 0 1 = cc in omega arith);
    }

-- where a number leads, by the side before it
data Leads (side : Ordering) (x y : ℕ) (r : Ordering) : Type 0 where
  stays : side ≡ Less → r ≡ Less → Leads side x y r
  falls : side ≡ Equal → x < y → r ≡ Less → Leads side x y r
  rises : side ≡ Equal → y < x → r ≡ Greater → Leads side x y r
  keeps : side ≡ Equal → x ≡ y → r ≡ Equal → Leads side x y r

leads : (firm : Bool) (side : Ordering) (x y : ℕ) (r : Ordering) → leaves_at firm side ≡ false → r ≡ side_after side x y → Leads side x y r
unfolding side_after leaves_at
leads firm Less x y r on is = stays refl is
leads firm Greater x y r on is = absurd (true_not_false refl on)
leads firm Equal x y r on is = at r is (ranks x y)
  where
    told : (o : Ordering) → nat_cmp x y ≡ o → MatchOrdering o (x < y) (x ≡ y) (y < x)
    told o e = rw e at (ranks x y)

    at : (o : Ordering) → o ≡ nat_cmp x y → MatchOrdering (nat_cmp x y) (x < y) (x ≡ y) (y < x) → Leads Equal x y o
    at Less e h = falls refl (told Less (sym e)) refl
    at Greater e h = rises refl (told Greater (sym e)) refl
    at Equal e h = keeps refl (told Equal (sym e)) refl

-- the first numbers written over themselves change nothing
pub over-take : (k : ℕ) (held : List ℕ) → k ≤ length held → over (take k held) held ≡ held
unfolding over
over-take k held fits = rw (length-take-le k held fits) (take-append-drop k held)

-- a start that is not less leaves what was held
module _ (W held₀ : List ℕ) (fits : length W ≤ length held₀) where
  either : (firm : Bool) (held : List ℕ) → held ≡ held₀ → lesser (take (length W) held₀) W ≡ take (length W) held₀ → held ≡ cond firm held₀ (over (lesser (take (length W) held₀) W) held₀)
  either true held same l = same
  either false held same l = same ∙ sym (ap (λ (w : List ℕ). over w held₀) l ∙ over-take (length W) held₀ fits)

  ended_greater : (firm : Bool) {held : List ℕ} {side : Ordering} → side ≡ Greater → less (take (length W) held₀) W ≡ true → held ≡ held₀ → Ended W held₀ held firm side
  ended_greater firm {held} is h same =
      record { outcome = is ∙ sym (greater_side W _ h); best = either firm held same (lesser_greater W _ h) }

  ended_same : (firm : Bool) {held : List ℕ} {side : Ordering} → side ≡ Equal → W ≡ take (length W) held₀ → held ≡ held₀ → Ended W held₀ held firm side
  ended_same firm {held} is h same = record { outcome = is ∙ sym (same_side W _ h); best = either firm held same (lesser_same W _ h) }

module _ {W held₀ held : List ℕ} {firm : Bool} {side : Ordering} {p : ℕ} (s : Standing W held₀ held firm side p) (fits : length W ≤ length held₀) (inside : p < length W) where
  best : List ℕ
  best = take (length W) held₀

  room : p < length held
  room = omega (arith, s.long)

  -- one number more is behind
  rest_more : drop (suc p) held ≡ drop (suc p) held₀
  rest_more =
      let more : p + 1 ≡ suc p = add-one p in
      rw more at (sym (drop-drop 1 p held) ∙ ap (drop 1) s.rest ∙ drop-drop 1 p held₀)

  -- a start that is tied has the numbers held so far
  tied_best : held ≡ held₀ → take p best ≡ take p W
  unfolding best
  tied_best same = take-take p (length W) held₀ (omega arith) ∙ ap (take p) (sym same) ∙ s.agrees

  best_here : held ≡ held₀ → get_or best p 0 ≡ get_or held p 0
  unfolding best
  best_here same = get_or-take (length W) held₀ p 0 inside ∙ ap (λ (l : List ℕ). get_or l p 0) (sym same)

  best_long : length best ≡ length W
  unfolding best
  best_long = length-take-le (length W) held₀ fits

  module _ (x : ℕ) (number : x ≡ get_or W p 0) where
    -- the first number that differs decides
    falls_less : side ≡ Equal → x < get_or held p 0 → less W (take (length W) held₀) ≡ true
    unfolding best
    falls_less tie below =
        let same = s.tied tie in
        less_at W best p inside (rw best_long inside) (sym (tied_best same)) (rw (← number, best_here same) below)

    rises_greater : side ≡ Equal → get_or held p 0 < x → less (take (length W) held₀) W ≡ true
    unfolding best
    rises_greater tie above =
        let same = s.tied tie in
        less_at best W p (rw best_long inside) inside (tied_best same) (rw (← number, best_here same) above)

    -- the number is written
    standing_written : firm ≡ false → less W (take (length W) held₀) ≡ true → Standing W held₀ (set held p x) firm Less (p + 1)
    unfolding leaves_at
    standing_written unfirm less-now =
        rw (add-one p)
        (record {
          long = length-set held p x ∙ s.long;
          high = inside;
          agrees =
              take-suc-set held p x room
              ∙ ap (λ (l : List ℕ). l ++ (x ∷ [])) s.agrees
              ∙ ap (λ (y : ℕ). take p W ++ (y ∷ [])) number
              ∙ sym (take-suc W p 0 inside);
          rest = drop-set-lt (suc p) held p x (omega arith) ∙ rest_more;
          on = unfirm;
          tied = λ z. absurd (let y : ◌≡◌ {A = ℕ} 0 1 = cc in omega arith);
          won = λ z. less-now;
        })

    -- the number is the one held
    standing_same : side ≡ Equal → x ≡ get_or held p 0 → Standing W held₀ held firm Equal (p + 1)
    unfolding leaves_at
    standing_same tie is =
        rw (add-one p)
        (record {
          long = s.long;
          high = inside;
          agrees =
              take-suc held p 0 room
              ∙ ap (λ (l : List ℕ). l ++ (get_or held p 0 ∷ [])) s.agrees
              ∙ ap (λ (y : ℕ). take p W ++ (y ∷ [])) (sym is ∙ number)
              ∙ sym (take-suc W p 0 inside);
          rest = rest_more;
          on = refl;
          tied = λ z. s.tied tie;
          won = λ z. absurd (let y : ◌≡◌ {A = ℕ} 0 1 = cc in omega arith);
        })

    module _ {held' : List ℕ} {r : Ordering} (w : Weighed held held' p x side firm r) where
      -- what is written where the start is less and the word not firm, and what stays otherwise
      wrote_less : r ≡ Less → firm ≡ false → held' ≡ set held p x
      wrote_less is unfirm = w.written ∙ rw (is, unfirm)

      wrote_firm : r ≡ Less → firm ≡ true → held' ≡ held
      wrote_firm is firmly = w.written ∙ rw (is, firmly)

      wrote_greater : r ≡ Greater → held' ≡ held
      wrote_greater is = w.written ∙ rw is

      wrote_same : r ≡ Equal → held' ≡ held
      wrote_same is = w.written ∙ rw is

      -- one number more, where the start is not left
      pub standing_turn : leaves_at firm r ≡ false → Standing W held₀ held' firm r (p + 1)
      unfolding leaves_at
      standing_turn on = at (leads firm side x (get_or held p 0) r s.on w.is_side_after)
        where
          at : Leads side x (get_or held p 0) r → Standing W held₀ held' firm r (p + 1)
          at (stays one is) =
              let unfirm : firm ≡ false = rw is at on in
              rw (wrote_less is unfirm, is) (standing_written unfirm (s.won one))
          at (falls tie below is) =
              let unfirm : firm ≡ false = rw is at on in
              rw (wrote_less is unfirm, is) (standing_written unfirm (falls_less tie below))
          at (rises tie above is) = absurd (let no : true ≡ false = rw is at on in true_not_false refl no)
          at (keeps tie same is) = rw (wrote_same is, is) (standing_same tie same)

      -- the number at which the start is left decides, and what is held stays
      pub standing_left : leaves_at firm r ≡ true → Ended W held₀ held' firm r
      unfolding leaves_at
      standing_left gone = at (leads firm side x (get_or held p 0) r s.on w.is_side_after)
        where
          at : Leads side x (get_or held p 0) r → Ended W held₀ held' firm r
          at (stays one is) =
              let unfirm : firm ≡ false = rw one at s.on in
              let firmly : firm ≡ true = rw is at gone in
              absurd (true_not_false firmly unfirm)
          at (falls tie below is) =
              let firmly : firm ≡ true = rw is at gone in
              record {
                outcome = is ∙ sym (less_side W (take (length W) held₀) (falls_less tie below));
                best = wrote_firm is firmly ∙ s.tied tie ∙ rw firmly;
              }
          at (rises tie above is) = ended_greater W held₀ fits firm is (rises_greater tie above) (wrote_greater is ∙ s.tied tie)
          at (keeps tie same is) = absurd (let no : false ≡ true = rw is at gone in true_not_false refl (sym no))

-- all numbers are judged
pub standing_end : {W held₀ held : List ℕ} {firm : Bool} {side : Ordering} → length W ≤ length held₀ → Standing W held₀ held firm side (length W) → Ended W held₀ held firm side
unfolding over leaves_at
standing_end {W} {held₀} {held} {firm} {side} fits s = at side refl
  where
    whole : take (length W) held ≡ W
    whole = s.agrees ∙ take-length W

    at : (t : Ordering) → side ≡ t → Ended W held₀ held firm side
    at Less is =
        let unfirm : firm ≡ false = rw is at s.on in
        record {
          outcome = is ∙ sym (less_side W (take (length W) held₀) (s.won is));
          best =
              sym (take-append-drop (length W) held)
              ∙ ap (λ (l : List ℕ). l ++ drop (length W) held) whole
              ∙ ap (λ (l : List ℕ). W ++ l) s.rest
              ∙ sym (ap (λ (l : List ℕ). over l held₀) (lesser_less W (take (length W) held₀) (s.won is)))
              ∙ rw unfirm;
        }
    at Equal is =
        let same = s.tied is in
        ended_same W held₀ fits firm is (sym whole ∙ ap (take (length W)) same) same
    at Greater is = absurd (let no : true ≡ false = rw is at s.on in true_not_false refl no)
