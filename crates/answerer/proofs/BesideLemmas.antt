-- The history of an actor that is shown.
use Rattle.std.proofs.Common.{◌≡◌, ◌∙◌, ℕ, zero, suc, ◌+◌, ◌-◌, ◌<◌, List, [], ◌∷◌, ◌++◌, Option, Some, append-nil, length, map, get_or, slice_get, refl, sym, ap, subst, arith}
use Rattle.std.specs.Option.{option_map}
use Rattle.std.proofs.lemmas.List.{get_or-map}
use Rattle.join_base.specs.declared.message.Source.{Source}
use Rattle.fair_semantics.specs.declared.run.Firing.{Firing}
use Rattle.actor_turn.specs.Held.{entry_source}
use Rattle.ask_board.specs.declared.view.Ask.{Ask}
use Rattle.answerer.specs.Asks.{AreNoted, next_ask}
use Rattle.answerer.proofs.AskLemmas.{noted_step}
use Rattle.fair_semantics.specs.declared.run.Entry.{Entry}
use Rattle.fair_semantics.specs.Step.{Setting, State}
use Rattle.actor_cells.specs.History.{History}
use Rattle.actor_pool.specs.Beside.{ShowsHistory}
use Rattle.history_law.specs.History.{entries_by}
use Rattle.history_law.proofs.HistoryLemmas.{entries_go_on, sources_no_matter}
use Rattle.answerer.specs.declared.reading.Answerer.{Answerer}
use Rattle.answerer.specs.Beside.{FitsHistory}
use Rattle.answerer.specs.Fit.{Fits, FitsNothing}
use Rattle.answerer.proofs.FitLemmas.{fits_grow}

-- the entries of a state that shows its history are those that the history makes
pub shown_by : (setting : Setting) (state : State) (history : History) → ShowsHistory setting state history → state.entries ≡ entries_by setting history
shown_by setting state history (feeds, actors, is) = is ∙ sources_no_matter setting feeds actors history

-- ---- one arrival of the actor

pub entry_there : (entries : List Entry) (place : ℕ) → place < length entries → (x : Entry) × (slice_get entries place ≡ Some x) × (x ≡ get_or entries place x)
entry_there [] place l = absurd (omega arith)
entry_there (e ∷ entries) zero l = (e, refl, refl)
entry_there (e ∷ entries) (suc place) l = entry_there entries place (omega arith)

-- the next arrival is noted, by its source
pub noted_shown : (actor : ℕ) (entries : List Entry) (asks : List (Option Ask)) (place : ℕ) (source : Source) (after : List (Option Ask)) → AreNoted actor entries asks → length asks ≡ place → place < length entries
    → option_map entry_source (slice_get entries (place + 1 - 1)) ≡ Some source → after ≡ asks ++ next_ask actor source asks ∷ [] → AreNoted actor entries after
noted_shown actor entries asks place source after noted count l told is =
    let (x, at, here) = entry_there entries place l in
    let on : place + 1 - 1 ≡ place = omega arith in
    let both : Some x.source ≡ Some source = sym (ap (option_map entry_source) (ap (slice_get entries) on ∙ at)) ∙ told in
    let same : x.source ≡ source = cc in
    noted_step actor entries asks x place after noted count l here (is ∙ ap (λ (s : Source). asks ++ next_ask actor s asks ∷ []) (sym same))

-- what it fired is that of its entry
pub firing_there : (entries : List Entry) (place : ℕ) (x : Entry) (firing : Option Firing) → place < length entries → x ≡ get_or entries place x → firing ≡ get_or (map (λ (entry : Entry). entry.firing) entries) place firing → firing ≡ x.firing
firing_there entries place x firing l at is = is ∙ get_or-map (λ (entry : Entry). entry.firing) entries place x firing l ∙ ap (λ (entry : Entry). entry.firing) (sym at)

-- ---- the fit of a history

-- what fits the entries that a history makes fits it
pub fits_history : (answerer : Answerer) (actor : ℕ) (setting : Setting) (history : History) → Fits answerer actor (entries_by setting history) → FitsHistory answerer actor setting history
fits_history answerer actor setting history fit = λ after prefix.
    let (more, whole) = entries_go_on setting history after prefix in
    subst (λ (es : List Entry). Fits answerer actor es) whole (fits_grow answerer actor (entries_by setting history) more fit)

pub fits_now : (answerer : Answerer) (actor : ℕ) (setting : Setting) (history : History) → FitsHistory answerer actor setting history → Fits answerer actor (entries_by setting history)
fits_now answerer actor setting history fit = fit history ([], append-nil history)

-- what knows nothing fits whatever arrives
pub nothing_fits : (answerer : Answerer) (actor : ℕ) (setting : Setting) (history : History) → FitsNothing answerer → FitsHistory answerer actor setting history
nothing_fits answerer actor setting history nothing = λ after prefix. fits_grow answerer actor [] (entries_by setting after) (nothing actor)
