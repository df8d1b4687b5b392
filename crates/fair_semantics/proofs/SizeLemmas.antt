-- The late counts of a state stay as many, and where all are 0 none is listed.
use Rattle.std.proofs.Common.{◌≡◌, ◌∙◌, ℕ, ◌-◌, List, [], ◌∷◌, ◌++◌, length, Bool, true, false, refl, sym, subst}
use Rattle.std.specs.Prelude.{slice_index}
use Rattle.std.specs.List.{AllByRecursion}
use Rattle.std.proofs.lemmas.List.{length-set, length-replicate}
use Rattle.join_base.specs.declared.message.Source.{Source}
use Rattle.join_base.specs.declared.message.Source.TheVariants.{Feed, Actor}
use Rattle.join_base.specs.Late.{Late, late_more, raised}
use Rattle.fair_semantics.specs.Step.{Setting, State, is_refused, is_running, opening}
use Rattle.join_base.specs.Late.{late_counts}
use Rattle.fair_semantics.specs.Fair.{Sent, after_all}
use Rattle.fair_semantics.proofs.KeptLemmas.{late_list_zero}
use Rattle.fair_semantics.proofs.TakenLemmas.{late_is, next_of, records, spent_is}

module _ (feeds actors : ℕ) where
  abbrev pub Sized : Late → Type 0
  Sized late = (length late.feeds ≡ feeds) × (length late.actors ≡ actors)

  pub sized_more : (late : Late) (source : Source) → Sized late → Sized (late_more late source)
  sized_more late (Feed k) h = (length-set late.feeds (k - 1) (raised (slice_index late.feeds (k - 1))) ∙ h.0, h.1)
  sized_more late (Actor a) h = (h.0, length-set late.actors a (raised (slice_index late.actors a)) ∙ h.1)

  sized_next : (setting : Setting) (state : State) (s : Sent) → Sized state.late → Sized (next_of setting state s).late
  sized_next setting state s h = by (is_running state.ending) refl
    where
      running : (b : Bool) → is_running state.ending ≡ true → is_refused setting state s.1.message s.1.stamp ≡ b → Sized (next_of setting state s).late
      running true e r = subst (λ (x : State). Sized x.late) (sym (spent_is setting state s e r)) (sized_more state.late s.0 h)
      running false e r = subst Sized (sym (records setting state s e r).1.1) h

      by : (b : Bool) → is_running state.ending ≡ b → Sized (next_of setting state s).late
      by false e = subst (λ (x : State). Sized x.late) (sym (late_is setting state s e)) (sized_more state.late s.0 h)
      by true e = running (is_refused setting state s.1.message s.1.stamp) e refl

  pub sized : (setting : Setting) (sent : List Sent) (state : State) → Sized state.late → Sized (after_all setting state sent).late
  sized setting [] state h = h
  sized setting (s ∷ sent) state h = sized setting sent (next_of setting state s) (sized_next setting state s h)

  pub sized_opening : Sized (opening feeds actors).late
  sized_opening = (length-replicate feeds 0, length-replicate actors 0)

pub none_counted : (late : Late) → AllByRecursion (λ n. n ≡ 0) late.feeds → AllByRecursion (λ n. n ≡ 0) late.actors → late_counts late ≡ []
none_counted late feeds actors = λ i. late_list_zero (λ k. Feed k) 1 late.feeds feeds i ++ late_list_zero (λ a. Actor a) 0 late.actors actors i
