-- The index of an actor has the numbers that are not consumed: from one step to the next.
use Rattle.std.proofs.Common.{◌≡◌, ◌∙◌, inl, inr, ℕ, zero, suc, ◌+◌, ◌<◌, ◌≤◌, List, [], ◌∷◌, ◌++◌, map, length, length-append, get_or, take, Bool, true, false, Option, Some, refl, sym, ap, subst, arith}
use Rattle.std.specs.Prelude.{◌≢◌, All, not, ◌||◌, ◌==◌, slice_get, if◌then◌else◌}
use Rattle.std.specs.List.{AllByRecursion}
use Rattle.std.proofs.lemmas.List.{length-map, map-append, take_more}
use Rattle.std.proofs.lemmas.Bool.Decides.{nat_tests}
use Rattle.std.proofs.lemmas.Bool.{cases_lt, not-true}
use Rattle.join_base.specs.Taken.{contains_number, without}
use Rattle.join_base.specs.declared.message.Message.{Message}
use Rattle.join_base.specs.declared.message.Source.{Source}
use Rattle.mailbox_core.specs.Mail.{Mail, Received, recorded_messages, next_arrival, no_mail, with_arrival, with_live}
use Rattle.pattern_core.specs.Members.{IsIn}
use Rattle.pattern_core.specs.Suits.{IsRecorded}
use Rattle.pattern_core.proofs.MembersLemmas.{IsIn-append_cases, IsIn-append_left, IsIn-append_right, IsIn-filter, IsIn-filter_from}
use Rattle.value_index.specs.Entries.{Entry}
use Rattle.value_index.specs.declared.field.IndexedField.{IndexedField}
use Rattle.value_index.specs.Index.{AddsNone, AddsOnly, Index, Has, Keeps, Lacks, entry}
use Rattle.value_index.specs.Values.{value_at}
use Rattle.match_tree.specs.Tree.{Tree}
use Rattle.tree_law.specs.Partials.{AreLive}
use Rattle.tree_law.specs.Trees.{HasPaths, HoldAll}
use Rattle.match_tree.proofs.RowsLemmas.{one_of_in}
use Rattle.tree_law.proofs.OfferLemmas.{has_more, indexed_paths, lacks_more}
use Rattle.fair_semantics.specs.declared.run.Ending.{Ending}
use Rattle.fair_semantics.specs.declared.run.Ending.TheVariants as ending
use Rattle.fair_semantics.specs.declared.run.Firing.{Firing}
use Rattle.fair_semantics.specs.Step.{Setting, is_running}
use Rattle.actor_turn.specs.Indexed.{IsIndexOf, KeepsUntaken, LacksTaken}
use Rattle.actor_turn.specs.Inside.{IsAtRest}
use Rattle.actor_turn.proofs.PartsLemmas.{entries_messages}

-- a number at a place is among the numbers
pub contains_at : (ns : List ℕ) (i : ℕ) → i < length ns → contains_number ns (get_or ns i 0) ≡ true
contains_at [] i within = absurd (omega arith)
contains_at (n ∷ ns) zero within = let same : (n == n) ≡ true = grind (arith, nat_tests) in rw same refl
contains_at (n ∷ ns) (suc i) within = or_right (get_or ns i 0 == n) (contains_number ns (get_or ns i 0)) (contains_at ns i (omega arith))
  where
    or_right : (a b : Bool) → b ≡ true → (a || b) ≡ true
    or_right true b e = refl
    or_right false b e = e

pub each_recorded : (messages : List Message) (ns : List ℕ) → AllByRecursion (IsRecorded messages) ns → All (IsRecorded messages) ns
each_recorded messages [] h k d l = absurd (omega arith)
each_recorded messages (n ∷ ns) h zero d l = h.0
each_recorded messages (n ∷ ns) h (suc k) d l = each_recorded messages ns h.1 k d (omega arith)

abbrev Shifts : Index → Index → Type 0
Shifts index now = now.fields ≡ index.fields

get_same : (index now : Index) → Shifts index now → (place : ℕ) (indexed : IndexedField) → slice_get now.fields place ≡ Some indexed → slice_get index.fields place ≡ Some indexed
get_same index now same place indexed get = ap (λ (fields : List IndexedField). slice_get fields place) (sym same) ∙ get

-- ---- one number

pub has_kept : (index now : Index) (messages : List Message) (n : ℕ) → Shifts index now → Keeps index.entries now.entries → Has index messages n → Has now messages n
has_kept index now messages n same keeps has place indexed get of_kind = keeps _ (has place indexed (get_same index now same place indexed get) of_kind)

pub lacks_kept : (index now : Index) (messages : List Message) (n : ℕ) → Shifts index now → AddsNone index.entries now.entries → Lacks index messages n → Lacks now messages n
lacks_kept index now messages n same none lacks place indexed get of_kind there = lacks place indexed (get_same index now same place indexed get) of_kind (none _ there)

-- where entries of another number alone came in
pub lacks_other : (index now : Index) (messages : List Message) (n number : ℕ) → n ≢ number → Shifts index now → AddsOnly number index.entries now.entries → Lacks index messages n → Lacks now messages n
lacks_other index now messages n number apart same only lacks place indexed get of_kind there = lacks place indexed (get_same index now same place indexed get) of_kind (only _ apart there)

-- one number more of those that are taken
pub one_more_gone : (taken : List ℕ) (i : ℕ) (index now : Index) (messages : List Message) → i < length taken → Shifts index now → AddsNone index.entries now.entries → LacksTaken (take i taken) index messages → Lacks now messages (get_or taken i 0) → LacksTaken (take (i + 1) taken) now messages
one_more_gone taken i index now messages within same none gone lacks n there =
    elim (IsIn-append_cases n (take i taken) (get_or taken i 0 ∷ []) (subst (λ (ns : List ℕ). IsIn n ns) (take_more taken i 0 within) there)) [
      | inl before ↦ lacks_kept index now messages n same none (gone n before)
      | inr last ↦ elim last [ inl e ↦ subst (λ (k : ℕ). Lacks now messages k) e lacks | inr f ↦ absurd f ]
    ]

-- ---- an index that an actor keeps

-- a number was added that is not recorded, or its entries in part
pub tried : (index now : Index) (m : Mail) (number : ℕ) → length m.arrivals < number → Shifts index now → Keeps index.entries now.entries → AddsOnly number index.entries now.entries → IsIndexOf index m → IsIndexOf now m
tried index now m number beyond same keeps only h = record {
  live = λ n there. has_kept index now (recorded_messages m.arrivals) n same keeps (h.live n there);
  consumed = λ n recorded gone.
      let count = length-map m.arrivals (λ (a : Received). a.message) in
      lacks_other index now (recorded_messages m.arrivals) n number (λ e. absurd (omega (arith, recorded.1, e))) same only (h.consumed n recorded gone);
}

-- it was emptied where the actor has ended
pub emptied : (index now : Index) (m : Mail) (ended : Ending) → Shifts index now → now.entries ≡ (if is_running ended then index.entries else []) → (is_running ended ≡ false → m.live ≡ []) → (is_running ended ≡ true → IsIndexOf index m) → IsIndexOf now m
emptied index now m ended same entries none running = by (is_running ended) refl
  where
    by : (b : Bool) → is_running ended ≡ b → IsIndexOf now m
    by true e =
        let all : now.entries ≡ index.entries = entries ∙ ap (λ (b : Bool). if b then index.entries else []) e in
        let h = running e in
        record {
          live = λ n there. has_kept index now (recorded_messages m.arrivals) n same (λ x is. subst (λ (es : List Entry). IsIn x es) (sym all) is) (h.live n there);
          consumed = λ n recorded gone. lacks_kept index now (recorded_messages m.arrivals) n same (λ x is. subst (λ (es : List Entry). IsIn x es) all is) (h.consumed n recorded gone);
        }
    by false e =
        let empty : now.entries ≡ [] = entries ∙ ap (λ (b : Bool). if b then index.entries else []) e in
        record {
          live = λ n there. absurd (subst (λ (ns : List ℕ). IsIn n ns) (none e) there);
          consumed = λ n recorded gone place indexed get of_kind there. absurd (subst (λ (es : List Entry). IsIn (entry place (value_at (recorded_messages m.arrivals) n indexed) n) es) empty there);
        }

-- an actor without an arrival, and one that has ended
pub none_indexed : (index : Index) (feeds actors : ℕ) → IsIndexOf index (no_mail feeds actors)
none_indexed index feeds actors = record { live = λ n there. absurd there; consumed = λ n recorded gone. absurd (omega (arith, recorded.0, recorded.1)) }

pub spent_index : (index : Index) (m : Mail) → m.live ≡ [] → index.entries ≡ [] → IsIndexOf index m
spent_index index m none empty = record {
  live = λ n there. absurd (subst (λ (ns : List ℕ). IsIn n ns) none there);
  consumed = λ n recorded gone place indexed get of_kind there. absurd (subst (λ (es : List Entry). IsIn (entry place (value_at (recorded_messages m.arrivals) n indexed) n) es) empty there);
}

module _ (setting : Setting) (m : Mail) (firings : List (Option Firing)) (end : Ending) (trees : List Tree) (rest : IsAtRest setting m firings end trees) (index : Index) (h : IsIndexOf index m) (source : Source) (message : Message) (stamp : ℕ) where
  abbrev after : Mail
  after = with_arrival m source message stamp

  abbrev newest : ℕ
  newest = length m.arrivals + 1

  all_recorded : AreLive (recorded_messages m.arrivals) m.live
  all_recorded = subst (λ (messages : List Message). AreLive messages m.live) (entries_messages 1 m.arrivals firings rest.fired) rest.steady.live

  messages_after : recorded_messages m.arrivals ++ message ∷ [] ≡ recorded_messages after.arrivals
  messages_after = sym (map-append (λ (a : Received). a.message) m.arrivals (next_arrival m.arrivals source message stamp ∷ []))

  -- so it has the numbers of the paths when the message is offered
  pub paths_indexed : AllByRecursion (HasPaths index (recorded_messages m.arrivals ++ message ∷ [])) trees
  paths_indexed = each trees (subst (λ (messages : List Message). HoldAll messages m.live trees) (entries_messages 1 m.arrivals firings rest.fired) rest.steady.hold)
    where
      each : (ts : List Tree) → HoldAll (recorded_messages m.arrivals) m.live ts → AllByRecursion (HasPaths index (recorded_messages m.arrivals ++ message ∷ [])) ts
      each [] hold = tt
      each (t ∷ ts) hold = (indexed_paths index (recorded_messages m.arrivals) message m.live t all_recorded h.live hold.0, each ts hold.1)

  -- the numbers that were there before
  old_has : (n : ℕ) → IsIn n m.live → Has index (recorded_messages after.arrivals) n
  old_has n there = subst (λ (messages : List Message). Has index messages n) messages_after (has_more index (recorded_messages m.arrivals) message n (all_recorded n there) (h.live n there))

  old_lacks : (n : ℕ) → IsRecorded (recorded_messages after.arrivals) n → n ≢ newest → ¬ IsIn n m.live → Lacks index (recorded_messages after.arrivals) n
  old_lacks n recorded apart gone =
      let count = length-map m.arrivals (λ (a : Received). a.message) in
      let more = ap length (sym messages_after) ∙ length-append (recorded_messages m.arrivals) (message ∷ []) in
      let before : IsRecorded (recorded_messages m.arrivals) n = (recorded.0, at_most (length (recorded_messages m.arrivals)) n (omega (arith, recorded.1)) (λ e. apart (e ∙ ap (λ (k : ℕ). k + 1) count))) in
      subst (λ (messages : List Message). Lacks index messages n) messages_after (lacks_more index (recorded_messages m.arrivals) message n before (h.consumed n before gone))
    where
      at_most : (k n : ℕ) → n ≤ k + 1 → (n ≡ k + 1 → ⊥) → n ≤ k
      at_most k n few apart = elim (cases_lt n (k + 1)) [ inl less ↦ omega arith | inr more ↦ absurd (apart (omega arith)) ]

  -- the message stays, and its number was added
  added : (now : Index) → Shifts index now → Keeps index.entries now.entries → AddsOnly newest index.entries now.entries → Has now (recorded_messages after.arrivals) newest → IsIndexOf now after
  added now same keeps only has = record {
    live = λ n there. elim (IsIn-append_cases n m.live (newest ∷ []) there) [
      | inl old ↦ has_kept index now (recorded_messages after.arrivals) n same keeps (old_has n old)
      | inr own ↦ elim own [ inl e ↦ subst (λ (k : ℕ). Has now (recorded_messages after.arrivals) k) e has | inr f ↦ absurd f ]
    ];
    consumed = λ n recorded gone.
        let apart : n ≢ newest = λ e. gone (IsIn-append_right n m.live (newest ∷ []) (inl (sym e))) in
        lacks_other index now (recorded_messages after.arrivals) n newest apart same only (old_lacks n recorded apart (λ old. gone (IsIn-append_left n m.live (newest ∷ []) old)));
  }

  pub kept_index : (now left : Index) (over : Bool) (before shown : Mail) (ended : Ending) → end ≡ ending.Running → Shifts index now → Keeps index.entries now.entries → AddsOnly newest index.entries now.entries → Has now (recorded_messages after.arrivals) newest
      → before ≡ after → shown ≡ (if over then with_live before [] else before) → ended ≡ (if over then ending.Jammed else end) → (is_running ended ≡ false → shown.live ≡ [])
      → Shifts now left → left.entries ≡ (if is_running ended then now.entries else []) → IsIndexOf left shown
  kept_index now left true before shown ended running same keeps only has is shown_is ended_is none left_same entries =
      emptied now left shown ended left_same entries none (λ runs. let both : false ≡ true = ap is_running (sym ended_is) ∙ runs in absurd cc)
  kept_index now left false before shown ended running same keeps only has is shown_is ended_is none left_same entries =
      emptied now left shown ended left_same entries none (λ runs. subst (IsIndexOf now) (sym (shown_is ∙ is)) (added now same keeps only has))

  -- a match took the message, and its numbers left
  taken_out : (now : Index) (taken : List ℕ) → Shifts index now → KeepsUntaken taken index.entries now.entries → AddsNone index.entries now.entries → LacksTaken taken now (recorded_messages after.arrivals) → contains_number taken newest ≡ true
      → IsIndexOf now (with_live after (without after.live taken))
  taken_out now taken same keeps none gone_taken takes = record {
    live = λ n there.
        let left = IsIn-filter_from (λ k. not (contains_number taken k)) n (m.live ++ newest ∷ []) there in
        let free : contains_number taken n ≡ false = not-true (contains_number taken n) left.1 in
        elim (IsIn-append_cases n m.live (newest ∷ []) left.0) [
          | inl old ↦ λ place indexed get of_kind. keeps _ free (old_has n old place indexed (get_same index now same place indexed get) of_kind)
          | inr own ↦ elim own [ inl e ↦ absurd (apart n free (sym e)) | inr f ↦ absurd f ]
        ];
    consumed = λ n recorded gone. by n recorded gone (contains_number taken n) refl;
  }
    where
      apart : (n : ℕ) → contains_number taken n ≡ false → n ≡ newest → ⊥
      apart n free e = let both : true ≡ false = sym takes ∙ sym (ap (contains_number taken) e) ∙ free in absurd cc

      by : (n : ℕ) → IsRecorded (recorded_messages after.arrivals) n → ¬ IsIn n (without after.live taken) → (b : Bool) → contains_number taken n ≡ b → Lacks now (recorded_messages after.arrivals) n
      by n recorded gone true e = gone_taken n (one_of_in taken n e)
      by n recorded gone false e =
          let stays : not (contains_number taken n) ≡ true = ap not e in
          let old : ¬ IsIn n m.live = λ there. gone (IsIn-filter (λ k. not (contains_number taken k)) n (m.live ++ newest ∷ []) stays (IsIn-append_left n m.live (newest ∷ []) there)) in
          lacks_kept index now (recorded_messages after.arrivals) n same none (old_lacks n recorded (apart n e) old)

  pub fired_index : (now left : Index) (stops : Bool) (taken : List ℕ) (before shown : Mail) (ended : Ending) → end ≡ ending.Running → Shifts index now → KeepsUntaken taken index.entries now.entries → AddsNone index.entries now.entries → LacksTaken taken now (recorded_messages after.arrivals)
      → contains_number taken newest ≡ true → before ≡ after → shown ≡ with_live before (if stops then [] else without before.live taken) → ended ≡ (if stops then ending.Stopped else end) → (is_running ended ≡ false → shown.live ≡ [])
      → Shifts now left → left.entries ≡ (if is_running ended then now.entries else []) → IsIndexOf left shown
  fired_index now left true taken before shown ended running same keeps none_added gone takes is shown_is ended_is none left_same entries =
      emptied now left shown ended left_same entries none (λ runs. let both : false ≡ true = ap is_running (sym ended_is) ∙ runs in absurd cc)
  fired_index now left false taken before shown ended running same keeps none_added gone takes is shown_is ended_is none left_same entries =
      emptied now left shown ended left_same entries none (λ runs. subst (IsIndexOf now) (sym (shown_is ∙ ap (λ (b : Mail). with_live b (without b.live taken)) is)) (taken_out now taken same keeps none_added gone takes))
