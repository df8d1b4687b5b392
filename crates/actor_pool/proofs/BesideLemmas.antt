-- What is kept of actors fits what was seen of them, later too.
use Rattle.std.proofs.Common.{◌≡◌, ◌≢◌, ℕ, zero, suc, ◌+◌, List, [], ◌∷◌, ◌++◌, length, length-append, refl, sym, ap, ◌∙◌, subst, inl, inr, arith}
use Rattle.std.specs.Prelude.{◌⊎◌, Some, slice_get}
use mathlib.Core.List.{IsPrefix}
use mathlib.Core.Logic.{dite}
use mathlib.Core.Option.{some, some-injective, some-ne-none}
use native.Mathlib.Decide.{ℕ_discrete}
use lib.ListN.{get_elem?}
use Rattle.std.proofs.lemmas.List.{append-nil, nil_from_length}
use Rattle.fair_semantics.specs.declared.run.Entry.{Entry}
use Rattle.fair_semantics.specs.Fair.{Sent, after_all}
use Rattle.fair_semantics.specs.Linked.{arrived, given_by, rests_by}
use Rattle.fair_semantics.proofs.ChainLemmas.{adds}
use Rattle.fair_semantics.proofs.FairLemmas.{after_all-append}
use Rattle.fair_semantics.proofs.TakenLemmas.{ended, taken_count, taken_or_fewer}
use Rattle.run_order_law.proofs.ArrivalLemmas.{length-arrived}
use Rattle.fair_semantics.specs.Step.{Setting, State, opening}
use Rattle.turn_lock.specs.View.{HasSeenAll, seen_of}
use Rattle.turn_lock.specs.Steps.{Gets, GivesBack}
use Rattle.actor_cells.specs.declared.cell.Cell.{Cell}
use Rattle.actor_cells.specs.declared.cell.CellTag.{CellTag}
use Rattle.actor_cells.specs.History.{History}
use Rattle.actor_cells.specs.Lawful.{IsLawful, actors_in, all_sources, came, cell_tag, entries_in, feeds_in, history_of, rules_in, state_in, tally_of}
use Rattle.actor_cells.specs.Served.{IsRefusing, StaysLawful}
use Rattle.actor_pool.specs.declared.helper.Helper.{Helper}
use Rattle.actor_pool.specs.declared.pool.Pool.{Pool}
use Rattle.actor_pool.specs.declared.turning.TurnFault.{TurnFault}
use Rattle.actor_pool.specs.declared.turning.TurnFault.TheVariants.{Busy, NoMemory}
use Rattle.actor_pool.specs.Helpers.{SeatView, HelperGoesOn, seat_of}
use Rattle.actor_pool.specs.Turning.{TakesTurn, Faulted, FaultedBeside}
use Rattle.actor_pool.specs.Beside.{Fitting, FitsOpening, FitsSeen, IsReached, KeepsOthers, ShowsHistory, setting_in}
use Rattle.actor_pool.proofs.HelperLemmas.{turn-went}

-- the law of what stands beside
abbrev pub Grows : {B : Type 0} → Fitting B → Type 0
Grows {B} fits = (kept : B) (actor : ℕ) (setting : Setting) (before after : History) → IsPrefix before after → fits kept actor setting before → fits kept actor setting after

tag-at : (tags : List CellTag) (i : ℕ) (tag : CellTag) → get_elem? tags i ≡ some tag → slice_get tags i ≡ Some tag
tag-at [] i tag at = absurd (some-ne-none tag (sym at))
tag-at (x ∷ tags) zero tag at = ap Some (some-injective x tag at)
tag-at (x ∷ tags) (suc i) tag at = tag-at tags i tag at

same-tag : (x y : CellTag) → Some x ≡ Some y → x ≡ y
same-tag x y e = cc

-- what a lawful cell holds is reached by fair steps
pub lawful-reached : (c : Cell) → IsLawful c → IsReached (rules_in c) (state_in c)
lawful-reached c lawful = (feeds_in c, actors_in c, given_by (rules_in c).sorts (all_sources c) (came c) (entries_in c), lawful.fair)

-- where as many were recorded as the first messages are, these are they
rest-alone : (setting : Setting) (state : State) (front rest : List Sent) → length (after_all setting state (front ++ rest)).entries ≡ length state.entries + length front → (after_all setting state (front ++ rest)).entries ≡ (after_all setting state front).entries
rest-alone setting state front rest count =
    elim (taken_or_fewer setting front state) [
      | inl taken ↦
          let a = adds setting rest (after_all setting state front) in
          let whole : (after_all setting state (front ++ rest)).entries ≡ (after_all setting state front).entries ++ a.new = ap (λ (x : State). x.entries) (after_all-append setting state front rest) ∙ a.entries_are in
          let own = taken_count setting front state taken in
          let sum : length ((after_all setting state front).entries ++ a.new) ≡ length (after_all setting state front).entries + length a.new = length-append (after_all setting state front).entries a.new in
          let size : length (after_all setting state (front ++ rest)).entries ≡ length ((after_all setting state front).entries ++ a.new) = ap length whole in
          let none : a.new ≡ [] = nil_from_length a.new (omega arith) in
          whole ∙ ap (λ (es : List Entry). (after_all setting state front).entries ++ es) none ∙ append-nil (after_all setting state front).entries
      | inr fewer ↦
          ap (λ (x : State). x.entries) (after_all-append setting state front rest) ∙ (ended setting rest (after_all setting state front) fewer.0).entries
    ]

-- a lawful cell has the entries that its history makes
pub lawful-shows : (c : Cell) → IsLawful c → ShowsHistory (rules_in c) (state_in c) (history_of c)
lawful-shows c lawful =
    let start : State = opening (feeds_in c) (actors_in c) in
    let front : List Sent = arrived (came c) (entries_in c) in
    let rest : List Sent = rests_by (rules_in c).sorts (all_sources c) (came c) (entries_in c) in
    let whole : state_in c ≡ after_all (rules_in c) start (front ++ rest) = lawful.fair in
    let size : length (entries_in c) ≡ length (after_all (rules_in c) start (front ++ rest)).entries = ap (λ (s : State). length s.entries) whole in
    let all : length front ≡ length (entries_in c) = length-arrived (came c) [] (entries_in c) in
    let count : length (after_all (rules_in c) start (front ++ rest)).entries ≡ 0 + length front = omega arith in
    (feeds_in c, actors_in c, ap (λ (s : State). s.entries) whole ∙ rest-alone (rules_in c) start front rest count ∙ ap (λ (h : List Sent). (after_all (rules_in c) start h).entries) (sym lawful.history))

-- a turn that was given back without memory: for a message, or for what stands beside
pub turn-faulted : (W : Type 0) (i : ℕ) (v w : SeatView) (c d : Cell) → TakesTurn i c d v w → IsRefusing d ⊎ W → FaultedBeside W i NoMemory v w
turn-faulted W i v w c d turn (inl refused) = inl record { found = c; left = d; turn = turn; refused = refused }
turn-faulted W i v w c d turn (inr wants) = inr (wants, record { found = c; left = d; turn = turn })

-- nobody wants memory
pub nobody-faulted : (i : ℕ) (fault : TurnFault) (v w : SeatView) → FaultedBeside ⊥ i fault v w → Faulted i fault v w
nobody-faulted i (Busy word) v w h = h
nobody-faulted i NoMemory v w (inl refused) = refused
nobody-faulted i NoMemory v w (inr wants) = absurd (wants.0)

module _ {B : Type 0} (fits : Fitting B) (grows : Grows fits) where
  -- what fits every actor at which nothing arrived fits whatever was seen
  pub opening-fits : (kept : B) (v : SeatView) → FitsOpening fits kept → FitsSeen fits v kept
  opening-fits kept v fit actor tag at = grows kept actor (setting_in tag) [] (seen_of v actor) (seen_of v actor, refl) (fit actor (setting_in tag))

  pub fits-later : (kept : B) (v w : SeatView) → w.tags ≡ v.tags → HasSeenAll v w → FitsSeen fits v kept → FitsSeen fits w kept
  fits-later kept v w tags seen fit actor tag at =
      grows kept actor (setting_in tag) (seen_of v actor) (seen_of w actor) (seen actor) (fit actor tag (ap (λ (l : List CellTag). slice_get l actor) (sym tags) ∙ at))

  pub goes-fits : (p : Pool) (a b : Helper) (kept : B) → HelperGoesOn p a b → FitsSeen fits (seat_of a) kept → FitsSeen fits (seat_of b) kept
  goes-fits p a b kept on fit = fits-later kept (seat_of a) (seat_of b) on.tags on.seen fit

  -- what is kept fits the cell of a turn that was got
  pub got-fits : (kept : B) (i : ℕ) (v w : SeatView) (c : Cell) → Gets cell_tag IsLawful history_of tally_of i v c w → FitsSeen fits v kept → fits kept i (setting_in (cell_tag c)) (history_of c)
  got-fits kept i v w c got fit = grows kept i (setting_in (cell_tag c)) (seen_of v i) (history_of c) got.3 (fit i (cell_tag c) (tag-at v.tags i (cell_tag c) got.2))

  -- the actor was shown, and its turn given back
  pub shown-fits : (old now : B) (i : ℕ) (v w : SeatView) (tag : CellTag) (history : History) → w.tags ≡ v.tags → HasSeenAll v w → get_elem? v.tags i ≡ some tag → seen_of w i ≡ history
      → fits now i (setting_in tag) history → KeepsOthers fits old now i → FitsSeen fits v old → FitsSeen fits w now
  shown-fits old now i v w tag history tags seen here is fit others before actor other at =
      let there : slice_get v.tags actor ≡ Some other = ap (λ (l : List CellTag). slice_get l actor) (sym tags) ∙ at in
      dite (ℕ_discrete actor i)
      (λ (same : actor ≡ i).
      let one : tag ≡ other = same-tag tag other (sym (tag-at v.tags i tag here) ∙ ap (slice_get v.tags) (sym same) ∙ there) in
      let whole : history ≡ seen_of w actor = sym is ∙ ap (seen_of w) (sym same) in
      let first = subst (λ (n : ℕ). fits now n (setting_in tag) history) (sym same) fit in
      let second = subst (λ (t : CellTag). fits now actor (setting_in t) history) one first in
      subst (λ (h : History). fits now actor (setting_in other) h) whole second)
      (λ (differ : actor ≢ i). grows now actor (setting_in other) (seen_of v actor) (seen_of w actor) (seen actor) ((others actor differ (setting_in other) (seen_of v actor)).0 (before actor other there)))

  pub turn-fits : (old now : B) (i k : ℕ) (v w1 w : SeatView) (c c0 d : Cell) (word : ℕ) → k ≡ i → c0 ≡ c → Gets cell_tag IsLawful history_of tally_of i v c w1 → StaysLawful c0 d
      → GivesBack history_of tally_of k w1 d word w → seen_of w k ≡ history_of d → fits now i (setting_in (cell_tag d)) (history_of d) → KeepsOthers fits old now i → FitsSeen fits v old → FitsSeen fits w now
  turn-fits old now i k v w1 w c c0 d word at here got kept back seen fit others before =
      let went = turn-went i k v w1 w c c0 d word at here got kept back in
      shown-fits old now i v w (cell_tag d) (history_of d) went.tags went.seen (got.2 ∙ ap some (sym (kept.tag ∙ ap cell_tag here))) (ap (seen_of w) (sym at) ∙ seen) fit others before
