-- The laws of the entries of a history.
use Rattle.std.proofs.Common.{◌≡◌, ◌∙◌, ℕ, suc, ◌+◌, List, [], ◌∷◌, ◌++◌, length, map, Bool, true, false, refl, ap, sym, arith}
use Rattle.std.specs.Prelude.{if◌then◌else◌, ◌==◌}
use Rattle.std.proofs.lemmas.List.{length-map}
use Rattle.join_base.specs.declared.message.Source.{Source}
use Rattle.join_base.specs.declared.message.Stamped.{Stamped}
use Rattle.script_types.specs.declared.plan.Rule.{Rule}
use Rattle.fair_semantics.specs.declared.run.ActorRun.{ActorRun}
use Rattle.fair_semantics.specs.declared.run.Entry.{Entry}
use Rattle.fair_semantics.specs.Step.{Setting, State, opening}
use Rattle.fair_semantics.specs.Fair.{Sent, after_all, fair, run_of, setting_of}
use Rattle.fair_semantics.specs.Linked.{arrived_after, given, in_version, posts_of, rests_of, unstamped, unstamped_entry}
use Rattle.history_law.specs.History.{EntriesGoOn, RestsAreNoMatter, RunsShowHistories, SourcesAreNoMatter, entries_by, history_in}
use Rattle.history_law.proofs.EntriesLemmas.{goes_on, rest_alone, sources_alone}

pub entries_go_on : EntriesGoOn
entries_go_on setting before after (rest, is) =
    let (more, whole) = goes_on setting (opening 0 0) before rest in
    (more, sym whole ∙ ap (entries_by setting) is)

pub sources_no_matter : SourcesAreNoMatter
sources_no_matter setting feeds actors history = sources_alone setting feeds actors history

pub rests_no_matter : RestsAreNoMatter
rests_no_matter setting feeds actors history rests count =
    let sum : length (after_all setting (opening feeds actors) (history ++ rests)).entries ≡ 0 + length history = omega (arith, count) in
    rest_alone setting (opening feeds actors) history rests sum ∙ sources_alone setting feeds actors history

-- ---- runs

pub length_arrived : (posts : Source → List Stamped) (before entries : List Entry) → length (arrived_after posts before entries) ≡ length entries
length_arrived posts before [] = refl
length_arrived posts before (e ∷ entries) = ap suc (length_arrived posts (before ++ e ∷ []) entries)

bare_twice : (entries : List Entry) → map unstamped_entry (map unstamped_entry entries) ≡ map unstamped_entry entries
bare_twice [] = refl
bare_twice (e ∷ entries) = ap (λ (es : List Entry). unstamped_entry e ∷ es) (bare_twice entries)

-- the run of a state in a version has its entries, but for stamps
version_bare : (version : ℕ) (rules : List Rule) (state : State) (own : ActorRun) → own ≡ in_version version (run_of rules state) → map unstamped_entry own.entries ≡ map unstamped_entry state.entries
version_bare version rules state own = by (version == 1)
  where
    by : (b : Bool) → own ≡ (if b then unstamped (run_of rules state) else run_of rules state) → map unstamped_entry own.entries ≡ map unstamped_entry state.entries
    by true is = ap (λ (x : ActorRun). map unstamped_entry x.entries) is ∙ bare_twice state.entries
    by false is = ap (λ (x : ActorRun). map unstamped_entry x.entries) is

same_length : (one two : List Entry) → map unstamped_entry one ≡ map unstamped_entry two → length one ≡ length two
same_length one two same = sym (length-map one unstamped_entry) ∙ ap length same ∙ length-map two unstamped_entry

pub runs_show_histories : RunsShowHistories
runs_show_histories plan limits feeds run linked actor own there =
    let setting : Setting = setting_of plan actor limits in
    let posts : Source → List Stamped = λ source. posts_of feeds run.actors source actor in
    let history : List Sent = history_in feeds run actor own in
    let rests : List Sent = rests_of plan feeds run actor own.entries in
    let state : State = fair plan actor limits run.feeds (given plan feeds run actor own.entries) in
    let same : map unstamped_entry own.entries ≡ map unstamped_entry state.entries = version_bare run.version setting.rules state own (linked.each actor own there).fair in
    let count : length (after_all setting (opening run.feeds (length plan.actors)) (history ++ rests)).entries ≡ length history = sym (same_length own.entries state.entries same) ∙ sym (length_arrived posts [] own.entries) in
    same ∙ ap (map unstamped_entry) (rests_no_matter setting run.feeds (length plan.actors) history rests count)
