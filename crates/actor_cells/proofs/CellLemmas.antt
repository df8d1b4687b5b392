-- What each step of serving keeps.
use Rattle.std.proofs.Common.{◌≡◌, ◌∙◌, ℕ, zero, suc, ◌+◌, ◌<◌, ◌≤◌, List, [], ◌∷◌, ◌++◌, length, map, drop, get_or, set, Bool, true, false, refl, ap, sym, subst, arith, append_assoc}
use Rattle.std.specs.Prelude.{◌==◌, if◌then◌else◌, Some, None}
use Rattle.std.specs.List.{AllByRecursion, cons_option, filter_map, flat_map}
use Rattle.std.proofs.lemmas.List.{append-nil}
use mathlib.Core.List.{IsPrefix}
use Rattle.join_base.specs.declared.message.Stamped.{Stamped}
use Rattle.join_base.specs.declared.message.Source.{Source}
use Rattle.fair_semantics.specs.declared.run.Effect.{Effect}
use Rattle.fair_semantics.specs.declared.run.Effect.TheVariants as effect
use Rattle.fair_semantics.specs.declared.run.Entry.{Entry}
use Rattle.fair_semantics.specs.Step.{Setting, State, fair_step}
use Rattle.fair_semantics.specs.Linked.{arrived, effect_for, entry_posts, firing_effects, same_source}
use Rattle.fair_semantics.proofs.ListLemmas.{each_append}
use Rattle.fair_semantics.proofs.SizeLemmas.{Sized, sized}
use Rattle.actor_turn.specs.Held.{Held, new_entries, posts_behind, posts_for}
use Rattle.actor_turn.specs.Rest.{HoldsPartialMatches}
use Rattle.actor_turn.proofs.HeldLemmas.{same_partial}
use Rattle.actor_turn.proofs.PostsLemmas.{length-posts_behind}
use Rattle.post_ring.specs.declared.link_in.LinkIn.{LinkIn}
use Rattle.post_ring.specs.declared.link_out.LinkOut.{LinkOut}
use Rattle.post_ring.specs.Links.{identity_out, received}
use Rattle.cell_links.specs.declared.ends.Inward.{Inward}
use Rattle.cell_links.specs.declared.ends.Outward.{Outward}
use Rattle.cell_links.specs.Ends.{inward_tag, outward_tag, sent_to, tags_of}
use Rattle.cell_links.proofs.TagLemmas.{inward-set, outward-set}
use Rattle.actor_cells.specs.declared.cell.Cell.{Cell}
use Rattle.actor_cells.specs.declared.cell.CellTag.{CellTag}
use Rattle.actor_cells.specs.Lawful.{AreDifferent, AreDistinct, IsAmong, IsLawful, IsTag, actors_in, cell_tag, entries_in, feeds_in, held_in, history_of, received_from, state_in}
use Rattle.actor_cells.specs.Served.{StaysLawful}
use Rattle.actor_cells.specs.Steps.{AreSmall, Brings, Moves}
use Rattle.actor_cells.proofs.HistoryLemmas.{history-more, history-on}
use Rattle.actor_cells.proofs.StateLemmas.{HaveStamps, NoOthers, Stands, grows, stamped, stands_more}
use Rattle.actor_cells.proofs.LinkLemmas.{among, each-at, is-itself, none-from, received-more, received-same, same-number, sent-at, sent-other, sent-set, source_of, sources-are, target_of, targets-are}
use Rattle.join_base.proofs.EachLemmas.{each_right}

pub prefix-refl : {X : Type 0} (a : List X) → IsPrefix a a
prefix-refl a = ([], append-nil a)

pub prefix-trans : {X : Type 0} (a b c : List X) → IsPrefix a b → IsPrefix b c → IsPrefix a c
prefix-trans a b c p q = (p.0 ++ q.0, sym (append_assoc a p.0 q.0) ∙ ap (λ l. l ++ q.0) p.1 ∙ q.1)

pub kept-refl : (c : Cell) → IsLawful c → StaysLawful c c
kept-refl c lawful = record { lawful = lawful; tag = refl; history = prefix-refl (history_of c) }

pub kept-trans : (a b c : Cell) → StaysLawful a b → StaysLawful b c → StaysLawful a c
kept-trans a b c p q = record { lawful = q.lawful; tag = q.tag ∙ p.tag; history = prefix-trans (history_of a) (history_of b) (history_of c) p.history q.history }

-- ---- what lawfulness says of the state

pub of-lawful : (c : Cell) → IsLawful c → Stands (held_in c).setting (feeds_in c) (actors_in c) (received_from c.inward.items) (state_in c)
of-lawful c lawful = record { in_order = lawful.in_order; late = lawful.late; fair = lawful.fair }

-- what is posted by entries to a target has gone over the link, or waits
abbrev pub IsPosted : List Outward → List (List Stamped) → List Entry → ℕ → Type 0
IsPosted outward outbox entries actors = (target : ℕ) → target < actors → sent_to outward target ++ posts_for outbox target ≡ flat_map (entry_posts target) entries

-- a cell with the tag of another whose state stands
pub to-lawful : (c after : Cell) → IsLawful c → (held_in after).setting ≡ (held_in c).setting → cell_tag after ≡ cell_tag c → length (held_in after).outbox ≡ length (held_in c).outbox
    → Stands (held_in c).setting (feeds_in c) (actors_in c) (received_from after.inward.items) (state_in after) → history_of after ≡ arrived (received_from after.inward.items) (entries_in after) → HoldsPartialMatches (held_in after)
    → IsPosted after.outward.items (held_in after).outbox (entries_in after) (actors_in c) → IsLawful after
to-lawful c after lawful setting tag boxes before history partial posted =
    let feeds : feeds_in after ≡ feeds_in c = ap (λ (t : CellTag). t.feeds) tag in
    let actors : actors_in after ≡ actors_in c = ap (λ (t : CellTag). t.actors) tag in
    let now = subst (λ (x : Setting × ℕ × ℕ). Stands x.0 x.1 x.2 (received_from after.inward.items) (state_in after)) (λ i. (sym setting i, sym feeds i, sym actors i)) before in
    record {
      tag = subst IsTag (sym tag) lawful.tag;
      outboxes = boxes ∙ lawful.outboxes ∙ sym actors;
      in_order = now.in_order;
      late = now.late;
      history = history;
      fair = now.fair;
      partial = partial;
      posted = λ target within. posted target (subst (λ (n : ℕ). target < n) actors within);
    }

-- ---- entries that a step added

flat_map-append : (target : ℕ) (xs ys : List Entry) → flat_map (entry_posts target) (xs ++ ys) ≡ flat_map (entry_posts target) xs ++ flat_map (entry_posts target) ys
flat_map-append target [] ys = refl
flat_map-append target (x ∷ xs) ys = ap (λ (ps : List Stamped). entry_posts target x ++ ps) (flat_map-append target xs ys) ∙ sym (append_assoc (entry_posts target x) (flat_map (entry_posts target) xs) (flat_map (entry_posts target) ys))

behind-at : (from : ℕ) (new : List Entry) (outbox : List (List Stamped)) (k : ℕ) → k < length outbox → posts_for (posts_behind from new outbox) k ≡ posts_for outbox k ++ flat_map (entry_posts (from + k)) new
behind-at from new [] k within = absurd (omega arith)
behind-at from new (ps ∷ outbox) zero within = ap (λ (n : ℕ). ps ++ flat_map (entry_posts n) new) (let e : from ≡ from + 0 = omega arith in e)
behind-at from new (ps ∷ outbox) (suc k) within =
    behind-at (from + 1) new outbox k (omega arith) ∙ ap (λ (n : ℕ). posts_for outbox k ++ flat_map (entry_posts n) new) (let e : from + 1 + k ≡ from + suc k = omega arith in e)

-- what was posted before and by the new entries
still-posted : (outward : List Outward) (before after : List (List Stamped)) (old now new : List Entry) (actors : ℕ) → now ≡ old ++ new → after ≡ posts_behind 0 new before → length before ≡ actors → IsPosted outward before old actors → IsPosted outward after now actors
still-posted outward before after old now new actors more boxes count posted target within =
    let at : posts_for after target ≡ posts_for before target ++ flat_map (entry_posts target) new = ap (λ (o : List (List Stamped)). posts_for o target) boxes ∙ behind-at 0 new before target (subst (λ (n : ℕ). target < n) (sym count) within) ∙ ap (λ (n : ℕ). posts_for before target ++ flat_map (entry_posts n) new) (let e : 0 + target ≡ target = omega arith in e) in
    ap (λ (ps : List Stamped). sent_to outward target ++ ps) at ∙ sym (append_assoc (sent_to outward target) (posts_for before target) (flat_map (entry_posts target) new))
    ∙ ap (λ (ps : List Stamped). ps ++ flat_map (entry_posts target) new) (posted target within) ∙ sym (flat_map-append target old new) ∙ ap (flat_map (entry_posts target)) (sym more)

-- ---- the link at a place was looked at

module _ (c after : Cell) (k : ℕ) (w : Inward) (l : LinkOut) (lawful : IsLawful c) (within : k < length c.inward.items) (here : get_or c.inward.items k w ≡ w)
    (inward : after.inward.items ≡ set c.inward.items k (record w { link = l })) (outward : after.outward.items ≡ c.outward.items) (identity : identity_out l ≡ identity_out w.link) where
  known : AllByRecursion (IsAmong (feeds_in c) (actors_in c)) (map source_of c.inward.items)
  known = subst (AllByRecursion (IsAmong (feeds_in c) (actors_in c))) (sources-are c.inward.items) lawful.tag.known

  pub known-here : IsAmong (feeds_in c) (actors_in c) w.source
  known-here = subst (λ (o : Inward). IsAmong (feeds_in c) (actors_in c) o.source) here (each-at (IsAmong (feeds_in c) (actors_in c)) source_of c.inward.items k w within known)

  different : AreDifferent (map source_of c.inward.items)
  different = subst AreDifferent (sources-are c.inward.items) lawful.tag.different

  tags : map inward_tag after.inward.items ≡ map inward_tag c.inward.items
  tags = ap (map inward_tag) inward ∙ inward-set c.inward.items k w l within here identity

  links : tags_of after.inward.items after.outward.items ≡ tags_of c.inward.items c.outward.items
  links = λ i. record { inward = tags i; outward = map outward_tag (outward i) }

  -- it showed nothing, or its message was refused
  pub looked : held_in after ≡ held_in c → received l ≡ received w.link → StaysLawful c after
  looked same took =
      let tag : cell_tag after ≡ cell_tag c = λ i. record {
        sorts = (same i).setting.sorts;
        rules = (same i).setting.rules;
        limits = (same i).setting.limits;
        feeds = length (same i).state.late.feeds;
        actors = length (same i).state.late.actors;
        links = links i;
      } in
      let came : received_from after.inward.items ≡ received_from c.inward.items = ap received_from inward ∙ (λ i source. received-same c.inward.items k w l source within here took i) in
      let now : Stands (held_in c).setting (feeds_in c) (actors_in c) (received_from after.inward.items) (state_in after) =
      subst (λ (x : (Source → List Stamped) × State). Stands (held_in c).setting (feeds_in c) (actors_in c) x.0 x.1) (λ i. (sym came i, (sym same i).state)) (of-lawful c lawful) in
      let history : history_of after ≡ arrived (received_from after.inward.items) (entries_in after) =
      subst (λ (x : (Source → List Stamped) × Held). x.1.history ≡ arrived x.0 x.1.state.entries) (λ i. (sym came i, sym same i)) lawful.history in
      let posted : IsPosted after.outward.items (held_in after).outbox (entries_in after) (actors_in c) =
      subst (λ (x : List Outward × Held). IsPosted x.0 x.1.outbox x.1.state.entries (actors_in c)) (λ i. (sym outward i, sym same i)) lawful.posted in
      record {
        lawful = to-lawful c after lawful (ap (λ (h : Held). h.setting) same) tag (ap (λ (h : Held). length h.outbox) same) now history (subst HoldsPartialMatches (sym same) lawful.partial) posted;
        tag = tag;
        history = subst (λ (h : Held). IsPrefix (history_of c) h.history) (sym same) (prefix-refl (history_of c));
      }

  -- its message was taken
  pub brought : Brings w.source (held_in c) (held_in after) w.link l → StaysLawful c after
  brought b =
      let state : State = (fair_step (held_in c).setting (held_in c).state w.source b.message.message b.message.stamp).0 in
      let size : Sized (feeds_in c) (actors_in c) state.late = sized (feeds_in c) (actors_in c) (held_in c).setting ((w.source, b.message) ∷ []) (held_in c).state (refl, refl) in
      let feeds : feeds_in after ≡ feeds_in c = ap (λ (s : State). length s.late.feeds) b.state ∙ size.0 in
      let actors : actors_in after ≡ actors_in c = ap (λ (s : State). length s.late.actors) b.state ∙ size.1 in
      let tag : cell_tag after ≡ cell_tag c = λ i. record {
        sorts = (b.setting i).sorts;
        rules = (b.setting i).rules;
        limits = (b.setting i).limits;
        feeds = feeds i;
        actors = actors i;
        links = links i;
      } in
      let none : NoOthers (held_in c).setting (feeds_in c) (actors_in c) (received_from c.inward.items) = λ source n. none-from (feeds_in c) (actors_in c) c.inward.items known source n in
      let came : (other : Source) → received_from (set c.inward.items k (record w { link = l })) other ≡ (if same_source w.source other then received_from c.inward.items other ++ b.message ∷ [] else received_from c.inward.items other) =
      λ other. received-more w l b.message b.took c.inward.items k other within here different in
      let stands = stands_more (held_in c).setting (feeds_in c) (actors_in c) (received_from c.inward.items) (received_from (set c.inward.items k (record w { link = l }))) (held_in c).state (of-lawful c lawful) none w.source b.message (among (feeds_in c) (actors_in c) w.source known-here) came in
      let now : Stands (held_in c).setting (feeds_in c) (actors_in c) (received_from after.inward.items) (state_in after) =
      subst (λ (x : List Inward × State). Stands (held_in c).setting (feeds_in c) (actors_in c) (received_from x.0) x.1) (λ i. (sym inward i, sym b.state i)) stands in
      let more = history-more (held_in c).setting (feeds_in c) (actors_in c) (received_from c.inward.items) (received_from (set c.inward.items k (record w { link = l }))) (held_in c).state (of-lawful c lawful) none w.source b.message came (held_in c).history (held_in after).history lawful.history b.history in
      let history : history_of after ≡ arrived (received_from after.inward.items) (entries_in after) =
      subst (λ (x : List Inward × State). (held_in after).history ≡ arrived (received_from x.0) x.1.entries) (λ i. (sym inward i, sym b.state i)) more in
      let g = grows (held_in c).setting (held_in c).state w.source b.message in
      let entries : entries_in after ≡ entries_in c ++ g.new = ap (λ (s : State). s.entries) b.state ∙ g.are in
      let new : new_entries (held_in c).state (held_in after).state ≡ g.new = ap (λ (s : State). drop (length (held_in c).state.entries) s.entries) b.state ∙ g.behind in
      let boxes : (held_in after).outbox ≡ posts_behind 0 g.new (held_in c).outbox = b.outbox ∙ ap (λ (es : List Entry). posts_behind 0 es (held_in c).outbox) new in
      let posted = still-posted c.outward.items (held_in c).outbox (held_in after).outbox (entries_in c) (entries_in after) g.new (actors_in c) entries boxes lawful.outboxes lawful.posted in
      record {
        lawful = to-lawful c after lawful b.setting tag (ap length boxes ∙ length-posts_behind 0 g.new (held_in c).outbox) now history b.partial (subst (λ (o : List Outward). IsPosted o (held_in after).outbox (entries_in after) (actors_in c)) (sym outward) posted);
        tag = tag;
        history = history-on (held_in c) w.source b.message.message b.message.stamp (held_in after).history b.history;
      }

-- ---- posts were moved to the link at a place

module _ (c after : Cell) (k : ℕ) (w : Outward) (l : LinkIn) (lawful : IsLawful c) (within : k < length c.outward.items) (here : get_or c.outward.items k w ≡ w)
    (inward : after.inward.items ≡ c.inward.items) (outward : after.outward.items ≡ set c.outward.items k (record w { link = l })) (moves : Moves w.target (held_in c) (held_in after) w.link l) where
  distinct : AreDistinct (map target_of c.outward.items)
  distinct = subst AreDistinct (targets-are c.outward.items) lawful.tag.distinct

  now_posted : IsPosted (set c.outward.items k (record w { link = l })) (held_in after).outbox (entries_in c) (actors_in c)
  now_posted target lt = by (target == w.target) refl
    where
      own : target ≡ w.target → sent_to (set c.outward.items k (record w { link = l })) target ++ posts_for (held_in after).outbox target ≡ flat_map (entry_posts target) (entries_in c)
      own same =
          ap (λ (t : ℕ). sent_to (set c.outward.items k (record w { link = l })) t ++ posts_for (held_in after).outbox t) same
          ∙ ap (λ (ps : List Stamped). ps ++ posts_for (held_in after).outbox w.target) (sent-set c.outward.items k w l within here distinct) ∙ moves.all
          ∙ ap (λ (ps : List Stamped). ps ++ posts_for (held_in c).outbox w.target) (sym (sent-at c.outward.items k w within here distinct))
          ∙ ap (λ (t : ℕ). sent_to c.outward.items t ++ posts_for (held_in c).outbox t) (sym same) ∙ lawful.posted target lt

      by : (b : Bool) → (target == w.target) ≡ b → sent_to (set c.outward.items k (record w { link = l })) target ++ posts_for (held_in after).outbox target ≡ flat_map (entry_posts target) (entries_in c)
      by true e = own (same-number target w.target e)
      by false e =
          let apart : ¬ (target ≡ w.target) = λ same. let clash : true ≡ false = sym (is-itself w.target) ∙ ap (λ (t : ℕ). t == w.target) (sym same) ∙ e in cc in
          (λ i. sent-other c.outward.items k w l target here within apart i ++ moves.others target apart i) ∙ lawful.posted target lt

  pub sent-kept : StaysLawful c after
  sent-kept =
      let tags : map outward_tag after.outward.items ≡ map outward_tag c.outward.items = ap (map outward_tag) outward ∙ outward-set c.outward.items k w l within here moves.identity in
      let tag : cell_tag after ≡ cell_tag c = λ i. record {
        sorts = (moves.setting i).sorts;
        rules = (moves.setting i).rules;
        limits = (moves.setting i).limits;
        feeds = length (moves.state i).late.feeds;
        actors = length (moves.state i).late.actors;
        links = record { inward = map inward_tag (inward i); outward = tags i };
      } in
      let now : Stands (held_in c).setting (feeds_in c) (actors_in c) (received_from after.inward.items) (state_in after) =
      subst (λ (x : List Inward × State). Stands (held_in c).setting (feeds_in c) (actors_in c) (received_from x.0) x.1) (λ i. (sym inward i, sym moves.state i)) (of-lawful c lawful) in
      let posted : IsPosted after.outward.items (held_in after).outbox (entries_in after) (actors_in c) =
      subst (λ (x : List Outward × State). IsPosted x.0 (held_in after).outbox x.1.entries (actors_in c)) (λ i. (sym outward i, sym moves.state i)) now_posted in
      let history : history_of after ≡ arrived (received_from after.inward.items) (entries_in after) =
      subst (λ (x : List Inward × State). (held_in after).history ≡ arrived (received_from x.0) x.1.entries) (λ i. (sym inward i, sym moves.state i)) (moves.history ∙ lawful.history) in
      let partial = same_partial (held_in c) (held_in after) moves.setting moves.state moves.trees lawful.partial in
      record {
        lawful = to-lawful c after lawful moves.setting tag moves.count now history partial posted;
        tag = tag;
        history = subst (IsPrefix (history_of c)) (sym moves.history) (prefix-refl (history_of c));
      }

-- ---- stamps of posts

effects-small : (target stamp : ℕ) → stamp ≤ 4294967295 → (effects : List Effect) → AreSmall (filter_map (effect_for target stamp) effects)
effects-small target stamp l [] = tt
effects-small target stamp l (effect.Print line ∷ effects) = effects-small target stamp l effects
effects-small target stamp l (effect.Reply number value ∷ effects) = effects-small target stamp l effects
effects-small target stamp l (effect.Post to message ∷ effects) = by (to == target) (effects-small target stamp l effects)
  where
    by : (b : Bool) → AreSmall (filter_map (effect_for target stamp) effects) → AreSmall (cons_option (if b then Some (let p : Stamped = record { message = message; stamp = stamp } in p) else None) (filter_map (effect_for target stamp) effects))
    by true more = (l, more)
    by false more = more

entries-small : (target : ℕ) (entries : List Entry) → HaveStamps entries → AreSmall (flat_map (entry_posts target) entries)
entries-small target [] each = tt
entries-small target (e ∷ entries) each =
    each_append (λ (p : Stamped). p.stamp ≤ 4294967295) (entry_posts target e) (flat_map (entry_posts target) entries) (effects-small target e.stamp each.0 (firing_effects e.firing)) (entries-small target entries each.1)

-- a post that waits has a stamp that is not too great for a link
pub waiting-small : (c : Cell) → IsLawful c → (target : ℕ) → target < actors_in c → AreSmall (posts_for (held_in c).outbox target)
waiting-small c lawful target within =
    let small = entries-small target (entries_in c) (stamped (held_in c).setting (feeds_in c) (actors_in c) (received_from c.inward.items) (state_in c) (of-lawful c lawful)) in
    each_right (λ (p : Stamped). p.stamp ≤ 4294967295) (sent_to c.outward.items target) (posts_for (held_in c).outbox target) (subst AreSmall (sym (lawful.posted target within)) small)

pub target-exists : (c : Cell) → IsLawful c → (k : ℕ) (w : Outward) → k < length c.outward.items → get_or c.outward.items k w ≡ w → w.target < actors_in c
target-exists c lawful k w within here =
    subst (λ (o : Outward). o.target < actors_in c) here
    (each-at (λ t. t < actors_in c) target_of c.outward.items k w within (subst (AllByRecursion (λ t. t < actors_in c)) (targets-are c.outward.items) lawful.tag.exist))
