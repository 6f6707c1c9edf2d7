use Rattle.std.proofs.Common.{◌≡◌, ◌≤◌, ◌<◌, ◌+◌, ◌-◌, take, ℕ, List, set, sym, ap, ◌∙◌, arith}
use Rattle.labels.specs.Queue.{label_in}
use Rattle.labels.specs.Inside.{Holds}
use Rattle.labels.proofs.Queue.{label_in_snoc_new, visit_nothing, visit_old, visit_new}
use Rattle.labels.proofs.Inside.{holds_length, holds_same, holds_new}
use Rattle.words.specs.Inside.{Met}
use Rattle.words.proofs.engine.Labelling.meet.Goals as goal

module _ {labels queue : List ℕ} {given : ℕ} {q : List ℕ} (h : Holds labels queue given q) (e : ℕ) where
  met-nothing : label_in q 0 ≡ 0 → e ≡ 0 → Met q e labels queue (record { given = given; label = 0 })
  met-nothing none z = record { holds = holds_same h (visit_nothing q e z); number = rw (visit_nothing q e z, z) (sym none) }

  met-old : (r : ℕ) → r ≡ label_in q e → 0 < r → Met q e labels queue (record { given = given; label = r })
  met-old r is pos = let same = visit_old q e (rw is at pos) in record { holds = holds_same h same; number = rw same is }

  met-new : 1 ≤ e → e ≤ 1020 → label_in q e ≡ 0 → given < 1020 → Met q e (set labels (e - 1) (given + 1)) (set queue given e) (record { given = given + 1; label = given + 1 })
  met-new low high none room =
      record {
        holds = holds_new h e low high none room;
        number = rw (visit_new q e low none) (sym (label_in_snoc_new q e none ∙ ap (λ (k : ℕ). k + 1) (holds_length h)));
      }

pub returns-then-e-eq0 : goal.returns-then-e-eq0
returns-then-e-eq0 c = met-nothing c.requires.holds _ c.requires.none c.if-e-eq0.true

pub returns-then-label-ne0 : goal.returns-then-label-ne0
returns-then-label-ne0 c =
    met-old c.requires.holds c.args.e _ (c.from-label.ensures ∙ c.requires.holds.label c.args.e (omega arith) c.requires.within) (omega arith)

pub returns : goal.returns
returns c =
    let none : label_in (take c.args.self.given c.args.queue.now) c.args.e ≡ 0 =
    sym (c.requires.holds.label c.args.e (omega arith) c.requires.within) ∙ sym c.from-label.ensures ∙ c.if-label-ne0.false in
    met-new c.requires.holds c.args.e (omega arith) c.requires.within none (c.requires.room (omega arith) none)
