-- Settled cells as a system at which nothing waits.
use Rattle.std.proofs.Common.{◌≡◌, ◌∙◌, ◌⊎◌, inl, inr, ℕ, zero, suc, ◌+◌, ◌<◌, ◌≤◌, List, [], ◌∷◌, ◌++◌, length, map, Bool, true, false, Option, None, Some, slice_get, refl, ap, sym, subst, arith}
use Rattle.std.specs.Prelude.{if◌then◌else◌, nat_lt}
use Rattle.std.specs.List.{AllByRecursion, flat_map}
use Rattle.std.proofs.lemmas.Bool.{cases_lt}
use Rattle.std.proofs.lemmas.Bool.Decides.{nat_tests}
use Rattle.std.proofs.lemmas.List.{append-nil}
use Rattle.std.proofs.lemmas.Option.{slice_get_past}
use Rattle.join_base.specs.declared.message.Message.{Message}
use Rattle.join_base.specs.declared.message.Stamped.{Stamped}
use Rattle.join_base.specs.declared.message.Source.{Source}
use Rattle.join_base.specs.declared.message.Source.TheVariants.{Feed, Actor}
use Rattle.script_types.specs.declared.plan.Plan.{Plan}
use Rattle.fair_semantics.specs.declared.run.ActorRun.{ActorRun}
use Rattle.fair_semantics.specs.declared.run.Limits.{Limits}
use Rattle.fair_semantics.specs.declared.run.Run.{Run}
use Rattle.fair_semantics.specs.Step.{Setting, State, opening}
use Rattle.fair_semantics.specs.Fair.{after_all, run_of, setting_of}
use Rattle.fair_semantics.specs.Fits.{SourceFits}
use Rattle.fair_semantics.specs.Linked.{IsLinked, entry_posts, feed_posts, given_by, numbers_from, same_source, sources}
use Rattle.fair_semantics.specs.Schedule.{System}
use Rattle.run_order_law.specs.Order.{shown}
use Rattle.run_order_law.proofs.EventLemmas.{same_source_is}
use Rattle.schedule_law.specs.Given.{AreFair, IsFairOf, sent_by}
use Rattle.schedule_law.specs.Reached.{IsServable, NothingWaits}
use Rattle.schedule_law.proofs.FairLemmas.{fair_is_linked}
use Rattle.actor_turn.specs.Held.{posts_for}
use Rattle.post_ring.specs.Links.{received}
use Rattle.cell_links.specs.declared.ends.Inward.{Inward}
use Rattle.cell_links.specs.declared.feed_links.FeedLinks.{FeedLinks}
use Rattle.cell_links.specs.Ends.{inward_tag, poster_links, sent_to}
use Rattle.actor_cells.specs.declared.cell.Cell.{Cell}
use Rattle.actor_cells.specs.Lawful.{IsAmong, IsLawful, cell_tag, held_in, received_from, state_in}
use Rattle.actor_cells.specs.Tags.{IsTagOf}
use Rattle.settling_law.specs.Settled.{AreFeedsOf, AreOwn, AreDelivered, SettledIsLinked, cell_sent, poster_sent, run_in, run_shown, went}

-- ---- the sources of a cell

is_among : (plan : Plan) (feeds actors : ℕ) (source : Source) → actors ≡ length plan.actors → IsAmong feeds actors source → SourceFits plan feeds source
is_among plan feeds actors (Feed k) e h = h
is_among plan feeds actors (Actor a) e h = omega (arith, e, h)

-- something comes only from sources that there are
known_from : (plan : Plan) (feeds actors : ℕ) (inward : List Inward) (source : Source) → actors ≡ length plan.actors → AllByRecursion (IsAmong feeds actors) (map (λ entry. entry.0) (map inward_tag inward))
    → (received_from inward source ≡ []) ⊎ SourceFits plan feeds source
known_from plan feeds actors [] source e each = inl refl
known_from plan feeds actors (w ∷ inward) source e each = by (same_source w.source source) refl (known_from plan feeds actors inward source e each.1)
  where
    by : (b : Bool) → same_source w.source source ≡ b → (received_from inward source ≡ []) ⊎ SourceFits plan feeds source
        → ((if b then received w.link else received_from inward source) ≡ []) ⊎ SourceFits plan feeds source
    by true same later = inr (subst (SourceFits plan feeds) (same_source_is w.source source same) (is_among plan feeds actors w.source e each.0))
    by false same later = later

-- ---- the system

abbrev state_of : State → Option Cell → State
state_of start None = start
state_of start (Some cell) = state_in cell

abbrev came_in : Option Cell → Source → List Stamped
came_in None source = []
came_in (Some cell) source = received_from cell.inward.items source

module _ (plan : Plan) (limits : Limits) (feeds : List (List (ℕ × Message))) (posters : List FeedLinks) (cells : List Cell) (own : AreOwn plan limits (length posters) cells) (fed : AreFeedsOf plan posters feeds) (settled : AreDelivered posters cells) where
  abbrev start : State
  start = opening (length feeds) (length plan.actors)

  abbrev states : ℕ → State
  states actor = state_of start (slice_get cells actor)

  abbrev came : ℕ → Source → List Stamped
  came actor source = came_in (slice_get cells actor) source

  -- nothing waits for actors of the plan, and for others all that was sent
  abbrev system : System
  system = record { state = states; waiting = λ source actor. if nat_lt actor (length plan.actors) then [] else sent_by feeds record { state = states; waiting = λ s a. [] } source actor }

  yes : (actor : ℕ) → actor < length plan.actors → nat_lt actor (length plan.actors) ≡ true
  yes actor l = grind (arith, nat_tests)

  no : (actor : ℕ) → length plan.actors ≤ actor → nat_lt actor (length plan.actors) ≡ false
  no actor l = grind (arith, nat_tests)

  nothing : NothingWaits plan system
  nothing source actor l = ap (λ (b : Bool). if b then [] else sent_by feeds record { state = states; waiting = λ s a. [] } source actor) (yes actor l)

  module _ (actor : ℕ) (cell : Cell) (at : slice_get cells actor ≡ Some cell) where
    abbrev tag : IsTagOf plan limits (length posters) actor (cell_tag cell)
    tag = own.tags actor cell at

    abbrev lawful : IsLawful cell
    lawful = own.lawful actor cell at

    setting_is : (held_in cell).setting ≡ setting_of plan actor limits
    setting_is = λ i. record { sorts = tag.sorts i; rules = tag.rules i; limits = tag.same_limits i }

    feeds_are : length (state_in cell).late.feeds ≡ length feeds
    feeds_are = tag.feed_count ∙ sym fed.count

    fair_cell : IsFairOf plan limits (length feeds) actor (received_from cell.inward.items) (state_in cell)
    fair_cell = record {
      known = λ source. subst (λ (n : ℕ). (received_from cell.inward.items source ≡ []) ⊎ SourceFits plan n source) feeds_are
          (known_from plan (length (state_in cell).late.feeds) (length (state_in cell).late.actors) cell.inward.items source tag.actor_count lawful.tag.known);
      in_order = lawful.in_order;
      is_fair = lawful.fair ∙ (λ i. after_all (setting_is i) (opening (feeds_are i) (tag.actor_count i)) (given_by (setting_is i).sorts (sources (feeds_are i) (tag.actor_count i)) (received_from cell.inward.items) (state_in cell).entries));
    }

    -- all that it posted went over its links
    all_sent : (target : ℕ) → target < length plan.actors → sent_to cell.outward.items target ≡ flat_map (entry_posts target) (state_in cell).entries
    all_sent target l =
        sym (append-nil (sent_to cell.outward.items target)) ∙ ap (λ (posts : List Stamped). sent_to cell.outward.items target ++ posts) (sym (settled.empty actor target cell at)) ∙ lawful.posted target (omega (arith, l, tag.actor_count))

  fair_at : (actor : ℕ) → actor < length plan.actors → IsFairOf plan limits (length feeds) actor (came actor) (states actor)
  fair_at actor l = by (slice_get cells actor) refl
    where
      by : (o : Option Cell) → slice_get cells actor ≡ o → IsFairOf plan limits (length feeds) actor (came_in o) (state_of start o)
      by None e = absurd (there cells actor (omega (arith, l, own.count)) e)
        where
          there : (cs : List Cell) (k : ℕ) → k < length cs → slice_get cs k ≡ None → ⊥
          there [] k m n = omega (arith, m)
          there (c ∷ cs) zero m n = cc
          there (c ∷ cs) (suc k) m n = there cs k (omega (arith, m)) n
      by (Some cell) e = fair_cell actor cell e

  -- what went over a link is all that its source sent
  went_all : (source : Source) (actor : ℕ) → actor < length plan.actors → went posters cells source actor ≡ sent_by feeds system source actor
  went_all (Feed zero) actor l = refl
  went_all (Feed (suc k)) actor l = by (slice_get posters k) refl
    where
      by : (o : Option FeedLinks) → slice_get posters k ≡ o → poster_sent o actor ≡ feed_posts actor (slice_get feeds k)
      by None e = sym (ap (feed_posts actor) (slice_get_past feeds k (past posters k e)))
        where
          behind : (ps : List FeedLinks) (j : ℕ) → slice_get ps j ≡ None → length ps ≤ j
          behind [] j n = omega arith
          behind (p ∷ ps) zero n = absurd cc
          behind (p ∷ ps) (suc j) n = let later = behind ps j n in omega (arith, later)

          past : (ps : List FeedLinks) (j : ℕ) → slice_get posters k ≡ None → length feeds ≤ k
          past ps j n = let many = behind posters k n in omega (arith, many, fed.count)
      by (Some poster) e = sym (fed.each k actor poster l e)
  went_all (Actor a) actor l = by (slice_get cells a) refl
    where
      by : (o : Option Cell) → slice_get cells a ≡ o → cell_sent o actor ≡ flat_map (entry_posts actor) (state_of start o).entries
      by None e = refl
      by (Some cell) e = all_sent a cell e actor l

  came_all : (source : Source) (actor : ℕ) → actor < length plan.actors → came actor source ≡ went posters cells source actor
  came_all source actor l = by (slice_get cells actor) refl
    where
      by : (o : Option Cell) → slice_get cells actor ≡ o → came_in o source ≡ went posters cells source actor
      by None e = absurd (there cells actor (omega (arith, l, own.count)) e)
        where
          there : (cs : List Cell) (k : ℕ) → k < length cs → slice_get cs k ≡ None → ⊥
          there [] k m n = omega (arith, m)
          there (c ∷ cs) zero m n = cc
          there (c ∷ cs) (suc k) m n = there cs k (omega (arith, m)) n
      by (Some cell) e = settled.arrived source actor cell e

  links : (source : Source) (actor : ℕ) → came actor source ++ system.waiting source actor ≡ sent_by feeds system source actor
  links source actor =
      elim (cases_lt actor (length plan.actors)) [
        | inl l ↦ ap (λ (posts : List Stamped). came actor source ++ posts) (nothing source actor l) ∙ append-nil (came actor source) ∙ came_all source actor l ∙ went_all source actor l
        | inr past ↦
            let none : slice_get cells actor ≡ None = slice_get_past cells actor (omega (arith, past, own.count)) in
            (λ i. came_in (none i) source ++ system.waiting source actor)
            ∙ ap (λ (b : Bool). if b then [] else sent_by feeds record { state = states; waiting = λ s a. [] } source actor) (no actor past) ∙ same source
      ]
    where
      same : (source : Source) → sent_by feeds record { state = states; waiting = λ s a. [] } source actor ≡ sent_by feeds system source actor
      same (Feed zero) = refl
      same (Feed (suc k)) = refl
      same (Actor a) = refl

  are_fair : AreFair plan limits feeds came system
  are_fair = record {
    each = fair_at;
    others = λ actor past.
        let none : slice_get cells actor ≡ None = slice_get_past cells actor (omega (arith, past, own.count)) in
        (ap (state_of start) none, λ source. ap (λ (o : Option Cell). came_in o source) none);
    links = links;
  }

  -- ---- the run

  each_run : (f : ℕ → ActorRun) (from : ℕ) (cs : List Cell) → ((k : ℕ) (cell : Cell) → slice_get cs k ≡ Some cell → f (from + k) ≡ run_in cell) → map f (numbers_from from (length cs)) ≡ map run_in cs
  each_run f from [] h = refl
  each_run f from (cell ∷ cs) h =
      let e : from ≡ from + 0 = omega arith in
      let first : f from ≡ run_in cell = ap f e ∙ h 0 cell refl in
      let later = each_run f (from + 1) cs (λ k c is. let n : from + 1 + k ≡ from + suc k = omega arith in ap f n ∙ h (suc k) c is) in
      λ i. first i ∷ later i

  shown_is : shown plan limits feeds system ≡ run_shown limits feeds cells
  shown_is =
      let f : ℕ → ActorRun = λ actor. run_of (setting_of plan actor limits).rules (states actor) in
      let runs : map f (numbers_from 0 (length plan.actors)) ≡ map run_in cells =
      ap (λ (n : ℕ). map f (numbers_from 0 n)) (sym own.count) ∙ each_run f 0 cells (λ k cell is. let e : 0 + k ≡ k = omega arith in ap f e ∙ one k cell is) in
      λ i. record { version = 2; limits = limits; feeds = length feeds; actors = runs i }
    where
      one : (k : ℕ) (cell : Cell) → slice_get cells k ≡ Some cell → run_of (setting_of plan k limits).rules (states k) ≡ run_in cell
      one k cell is = (λ i. run_of (sym (setting_is k cell is) i).rules (state_of start (is i)))

  pub settled_linked : IsServable plan limits feeds → IsLinked plan limits feeds (run_shown limits feeds cells)
  settled_linked can = subst (IsLinked plan limits feeds) shown_is (fair_is_linked plan limits feeds came system system [] can are_fair tt refl nothing)

pub settled_is_linked : SettledIsLinked
settled_is_linked plan limits feeds posters cells can own fed settled = settled_linked plan limits feeds posters cells own fed settled can
