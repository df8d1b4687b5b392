-- What a pass shows of a rule before a call, and what a call tells of the rule at one of its moments.
-- `holds waiting views` is the rule: of the tickets that wait, the oldest first, and of the views of the passes.
use Rattle.std.specs.Prelude.{◌≡◌, ℕ, ◌<◌, List, ◌∷◌, length}
use Rattle.crossbeam_queue.specs.Fifo.{Pushes, Pops, Forks, Learns}
use Rattle.ready_queue.specs.declared.view.PassView.{PassView}
use Rattle.ready_queue.specs.View.{IsSole, Wait, spent_view, with_put, with_taken, with_full, with_none}
use Rattle.ready_queue.specs.Rule.{HasView}

-- if the pass is a sole one, these tickets are those that it put and did not take, in order
abbrev pub AreOwn : PassView → List ℕ → Type 0
AreOwn v waiting = IsSole v → Wait v waiting

module _ (holds : List ℕ → List PassView → Type 0) where
  -- whatever waits, short of n tickets, and whatever the others know, the rule is kept when the pass of this number and
  -- view puts the ticket x, and when it counts an answer Full; and the rule says what waits to a sole pass
  pub record MayPut (n x pass : ℕ) (v : PassView) : Type 0 where
    pub puts : Pushes holds n pass v x (λ w. w ≡ with_put x v)
    pub counts : Forks holds pass v (with_full v) spent_view
    pub tells : Learns holds pass v (AreOwn v)

  -- the same when it takes the ticket in front, which is below 32, and when it counts an answer None
  pub record MayTake (pass : ℕ) (v : PassView) : Type 0 where
    pub takes : Pops holds pass v (λ x w. (w ≡ with_taken x v) × (x < 32))
    pub counts : Forks holds pass v (with_none v) spent_view
    pub tells : Learns holds pass v (AreOwn v)

  -- the rule holds, and one of the passes has the view v
  abbrev pub IsAmong : PassView → List ℕ → Type 0
  IsAmong v waiting = (views : List PassView) × holds waiting views × ((pass : ℕ) × HasView views pass v)

  -- what a step that is refused tells of the tickets that waited
  abbrev pub Told : PassView → List ℕ → Type 0
  Told v waiting = IsAmong v waiting × AreOwn v waiting

  -- at a moment n tickets waited, and the rule held with one of the passes having the view v
  abbrev pub WasAt : ℕ → PassView → Type 0
  WasAt n v = (waiting : List ℕ) × (length waiting ≡ n) × IsAmong v waiting

  -- at a moment the ticket x was the first of those that waited, and the rule held with one of the passes having the view v
  abbrev pub WasFirst : ℕ → PassView → Type 0
  WasFirst x v = (rest : List ℕ) × IsAmong v (x ∷ rest)
