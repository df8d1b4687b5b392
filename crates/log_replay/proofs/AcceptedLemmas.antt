-- No line of the log of a linked run is in fault.
use Rattle.std.proofs.Common.{◌≡◌, ◌∙◌, ℕ, zero, suc, ◌+◌, ◌-◌, ◌^◌, ◌<◌, ◌≤◌, min, List, [], ◌∷◌, ◌++◌, length, map, take, drop, Bool, true, Option, None, Some, append_assoc, slice_get, refl, ap, sym, subst, arith}
use Rattle.std.specs.Prelude.{if◌then◌else◌, ◌==◌, IfSome}
use Rattle.std.specs.List.{AllByRecursion, cons_option}
use Rattle.std.proofs.lemmas.List.{length-map, length-drop}
use Rattle.std.proofs.lemmas.Bool.Decides.{nat_tests}
use Rattle.join_base.specs.declared.message.Message.{Message}
use Rattle.join_base.specs.declared.message.Stamped.{Stamped}
use Rattle.join_base.specs.declared.message.Source.{Source}
use Rattle.join_base.specs.declared.message.Source.TheVariants.{Actor}
use Rattle.script_types.specs.declared.plan.Plan.{Plan}
use Rattle.script_types.specs.declared.plan.ActorPlan.{ActorPlan}
use Rattle.fair_semantics.specs.declared.run.Ending.TheVariants.{Running}
use Rattle.fair_semantics.specs.declared.run.Entry.{Entry}
use Rattle.fair_semantics.specs.declared.run.ActorRun.{ActorRun}
use Rattle.fair_semantics.specs.declared.run.Run.{Run}
use Rattle.fair_semantics.specs.Fits.{EntryFits, SourceFits}
use Rattle.fair_semantics.specs.Linked.{count_of, message_from, messages_of, posts_of, rest_of, same_source, taken_from, IsLinked}
use Rattle.fair_semantics.proofs.ListLemmas.{each_append}
use Rattle.arrival_log.specs.LogText.{end_line, late_line}
use Rattle.run_order_law.specs.Sorted.{entries_in}
use Rattle.log_replay.specs.Expected.{expected_posts, expected_run, read_entries}
use Rattle.log_replay.specs.Fault.{Line, IsPosted, Keeps, LacksNone, ends, entries_lines, lines_of_entry, firing_texts, lines_of, other_line, section_lines, sections_from, texts_of}
use Rattle.log_replay.specs.Law.{AllPostsFit, LinkedIsAccepted, LinkedIsExpected}
use Rattle.log_replay.proofs.SizeLemmas.{contains_actor}
use Rattle.log_replay.proofs.ActorLemmas.{expected_is}
use Rattle.log_replay.proofs.BoundLemmas.{actor_fits}
use Rattle.log_replay.proofs.ExpectedLemmas.{actor_expected, run_expected}

pub linked_is_expected : LinkedIsExpected
linked_is_expected plan limits feeds run typed fit linked =
    run_expected plan feeds run (subst (λ l. IsLinked plan l feeds run) (sym linked.same_limits) linked) typed.few_actors fit

-- ---- lists

if_there : {X : Type 0} (P : X → Type 0) (xs : List X) (k : ℕ) → AllByRecursion P xs → IfSome (slice_get xs k) P
if_there P [] k each = tt
if_there P (x ∷ xs) zero each = each.0
if_there P (x ∷ xs) (suc k) each = if_there P xs k each.1

pub each_mapped : {X Y : Type 0} (P : Y → Type 0) (f : X → Y) → ((x : X) → P (f x)) → (xs : List X) → AllByRecursion P (map f xs)
each_mapped P f h [] = tt
each_mapped P f h (x ∷ xs) = (h x, each_mapped P f h xs)

behind_others : {X : Type 0} (xs ys : List X) (x : X) → slice_get (xs ++ x ∷ ys) (length xs) ≡ Some x
behind_others [] ys x = refl
behind_others (y ∷ xs) ys x = behind_others xs ys x

in_first : {X : Type 0} (n : ℕ) (xs : List X) (k : ℕ) (x : X) → slice_get (take n xs) k ≡ Some x → slice_get xs k ≡ Some x
in_first zero xs k x e = absurd cc
in_first (suc n) [] k x e = absurd cc
in_first (suc n) (y ∷ xs) zero x e = e
in_first (suc n) (y ∷ xs) (suc k) x e = in_first n xs k x e

of_middle : {X : Type 0} (P : X → Type 0) (xs ys : List X) (x : X) → AllByRecursion P (xs ++ x ∷ ys) → P x
of_middle P [] ys x each = each.0
of_middle P (y ∷ xs) ys x each = of_middle P xs ys x each.1

-- what an actor took, with an entry from the source in the middle
pub taken_with : (source : Source) (earlier more : List Entry) (entry : Entry) → message_from source entry ≡ Some entry.message → taken_from source (earlier ++ entry ∷ more) ≡ taken_from source earlier ++ entry.message ∷ taken_from source more
taken_with source [] more entry is = ap (λ (o : Option Message). cons_option o (taken_from source more)) is
taken_with source (e ∷ earlier) more entry is = ap (cons_option (message_from source e)) (taken_with source earlier more entry is) ∙ by (message_from source e) (taken_from source earlier) (entry.message ∷ taken_from source more)
  where
    by : (o : Option Message) (xs ys : List Message) → cons_option o (xs ++ ys) ≡ cons_option o xs ++ ys
    by None xs ys = refl
    by (Some m) xs ys = refl

from_actor : (from : ℕ) (entry : Entry) → entry.source ≡ Actor from → message_from (Actor from) entry ≡ Some entry.message
from_actor from entry is = ap (λ (s : Source). if same_source s (Actor from) then Some entry.message else None) is ∙ ap (λ (b : Bool). if b then Some entry.message else None) (equal from)
  where
    equal : (a : ℕ) → (a == a) ≡ true
    equal a = grind (arith, nat_tests)

-- ---- the lines of a run keep what the sections keep

module _ (plan : Plan) (run : Run) where
  abbrev pub Kept : Line → Type 0
  Kept l = Keeps plan run l.mark

  -- what the lines of a section say of posts
  pub record SectionKeeps (actor : ℕ) (own : ActorRun) : Type 0 where
    pub posted : (earlier more : List Entry) (entry : Entry) → own.entries ≡ earlier ++ entry ∷ more → IsPosted plan run actor earlier entry
    pub lacks : LacksNone plan run actor

  entries_keep : (actor : ℕ) (earlier entries : List Entry) → ((first more : List Entry) (entry : Entry) → earlier ++ entries ≡ first ++ entry ∷ more → IsPosted plan run actor first entry) → AllByRecursion Kept (entries_lines plan run.version actor earlier entries)
  entries_keep actor earlier [] h = tt
  entries_keep actor earlier (e ∷ entries) h =
      each_append Kept (lines_of_entry plan run.version actor earlier e) (entries_lines plan run.version actor (earlier ++ e ∷ []) entries)
      (h earlier entries e refl, each_mapped Kept other_line (λ t. tt) (firing_texts plan e.firing))
      (entries_keep actor (earlier ++ e ∷ []) entries (λ first more entry is. h first more entry (sym (append_assoc earlier (e ∷ []) entries) ∙ is)))

  section_keeps : (actor : ℕ) (named : ActorPlan) (own : ActorRun) → SectionKeeps actor own → AllByRecursion Kept (section_lines plan run.version actor named own)
  section_keeps actor named own h =
      let late : List Line = map (λ l. other_line (late_line plan l)) own.late in
      let last : List Line = record { mark = ends actor; text = end_line own } ∷ [] in (
        tt,
        each_append Kept (entries_lines plan run.version actor [] own.entries) (late ++ last) (entries_keep actor [] own.entries h.posted)
            (each_append Kept late last (each_mapped Kept (λ l. other_line (late_line plan l)) (λ l. tt) own.late) (h.lacks, tt)),
      )

  sections_keep : (actor : ℕ) (actors : List ActorPlan) (runs : List ActorRun) → ((k : ℕ) (own : ActorRun) → slice_get runs k ≡ Some own → SectionKeeps (actor + k) own) → AllByRecursion Kept (sections_from plan run.version actor actors runs)
  sections_keep actor [] runs h = tt
  sections_keep actor (named ∷ actors) [] h = tt
  sections_keep actor (named ∷ actors) (own ∷ runs) h =
      let here : SectionKeeps actor own = subst (λ (a : ℕ). SectionKeeps a own) (first actor) (h 0 own refl) in
      each_append Kept (section_lines plan run.version actor named own) (sections_from plan run.version (actor + 1) actors runs) (section_keeps actor named own here)
      (sections_keep (actor + 1) actors runs (λ k other e. subst (λ (a : ℕ). SectionKeeps a other) (next actor k) (h (suc k) other e)))
    where
      first : (a : ℕ) → a + 0 ≡ a
      first a = omega arith

      next : (a k : ℕ) → a + suc k ≡ a + 1 + k
      next a k = omega arith

  lines_keep : ((actor : ℕ) (own : ActorRun) → slice_get run.actors actor ≡ Some own → SectionKeeps actor own) → AllByRecursion Kept (lines_of plan run)
  lines_keep h = (tt, sections_keep 0 plan.actors run.actors (λ k own e. subst (λ (a : ℕ). SectionKeeps a own) (from_zero k) (h k own e)))
    where
      from_zero : (k : ℕ) → k ≡ 0 + k
      from_zero k = omega arith

-- ---- the sections of a linked run

module _ (plan : Plan) (feeds : List (List (ℕ × Message))) (run : Run) (linked : IsLinked plan run.limits feeds run) (few_actors : length plan.actors ≤ 32) (fit : AllPostsFit plan feeds) (actor : ℕ) (own : ActorRun) (there : slice_get run.actors actor ≡ Some own) where
  posted : (earlier more : List Entry) (entry : Entry) → own.entries ≡ earlier ++ entry ∷ more → IsPosted plan run actor earlier entry
  posted earlier more entry is from source =
      let fits : AllByRecursion (EntryFits plan run.version run.feeds) own.entries = (actor_fits plan feeds run linked few_actors fit actor own there).entries in
      let entry_fits = of_middle (EntryFits plan run.version run.feeds) earlier more entry (subst (λ (es : List Entry). AllByRecursion (EntryFits plan run.version run.feeds) es) is fits) in
      let small : from < length plan.actors = subst (λ (s : Source). SourceFits plan run.feeds s) source entry_fits.source in
      let taken : taken_from (Actor from) own.entries ≡ taken_from (Actor from) earlier ++ entry.message ∷ taken_from (Actor from) more =
      ap (taken_from (Actor from)) is ∙ taken_with (Actor from) earlier more entry (from_actor from entry source) in
      let order = (linked.each actor own there).in_order (Actor from) (contains_actor run.feeds (length plan.actors) from small) in
      let posts : List Message = messages_of (posts_of feeds run.actors (Actor from) actor) in
      let at : slice_get (take (length (taken_from (Actor from) own.entries)) posts) (length (taken_from (Actor from) earlier)) ≡ Some entry.message =
      ap (λ (ms : List Message). slice_get ms (length (taken_from (Actor from) earlier))) (sym order ∙ taken) ∙ behind_others (taken_from (Actor from) earlier) (taken_from (Actor from) more) entry.message in
      ap (λ (ps : List Stamped). slice_get (messages_of ps) (length (taken_from (Actor from) earlier))) (expected_is plan feeds run linked from actor)
      ∙ in_first (length (taken_from (Actor from) own.entries)) posts (length (taken_from (Actor from) earlier)) entry.message at

  lacks : LacksNone plan run actor
  lacks running from small =
      let ends : own.ending ≡ Running = sym (ap (λ (x : ActorRun). x.ending) (actor_expected plan feeds run linked few_actors fit actor own there)) ∙ running in
      let l = linked.each actor own there in
      let none : own.late ≡ [] = l.none_late ends in
      let posts : Source → List Stamped = λ s. posts_of feeds run.actors s actor in
      let count : 0 ≡ min (length (rest_of posts own.entries (Actor from))) (2 ^ 64 - 1) = sym (ap (count_of (Actor from)) none) ∙ l.late (Actor from) (contains_actor run.feeds (length plan.actors) from small) in
      let left : length (rest_of posts own.entries (Actor from)) ≡ length (posts (Actor from)) - length (taken_from (Actor from) own.entries) =
      length-map (drop (length (taken_from (Actor from) own.entries)) (posts (Actor from))) (λ post. (Actor from, post)) ∙ length-drop (length (taken_from (Actor from) own.entries)) (posts (Actor from)) in
      let sent : length (expected_posts plan run from actor) ≡ length (posts (Actor from)) = ap length (expected_is plan feeds run linked from actor) in
      let read : length (taken_from (Actor from) (read_entries run actor)) ≡ length (taken_from (Actor from) own.entries) = ap (λ (o : Option ActorRun). length (taken_from (Actor from) (entries_in o))) there in
      omega (arith, count, left, sent, read)

  linked_keeps : SectionKeeps plan run actor own
  linked_keeps = record { posted = posted; lacks = lacks }

pub linked_is_accepted : LinkedIsAccepted
linked_is_accepted plan limits feeds run typed fit linked place =
    let own_limits : IsLinked plan run.limits feeds run = subst (λ l. IsLinked plan l feeds run) (sym linked.same_limits) linked in
    let same : expected_run plan run ≡ run = linked_is_expected plan limits feeds run typed fit linked in
    record {
      keeps = if_there (λ (l : Line). Keeps plan run l.mark) (lines_of plan run) place (lines_keep plan run (λ actor own e. linked_keeps plan feeds run own_limits typed.few_actors fit actor own e));
      same = sym (ap (λ (r : Run). slice_get (texts_of (lines_of plan r)) place) same);
    }
