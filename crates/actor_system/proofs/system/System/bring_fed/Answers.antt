use Rattle.std.proofs.Common.{◌≡◌, ◌∙◌, ℕ, suc, ◌+◌, ◌-◌, ◌<◌, ◌≤◌, length, List, map, slice_set, Some, refl, ap, sym, subst, arith}
use Rattle.std.proofs.lemmas.List.{length-map}
use Rattle.std.proofs.lemmas.Option.{slice_get_within}
use Rattle.join_base.specs.Late.{HasCount}
use Rattle.join_base.specs.declared.message.Message.{Message}
use Rattle.join_base.specs.declared.message.Source.TheVariants.{Feed}
use Rattle.std.specs.Vec.{with_item}
use Rattle.fair_semantics.specs.Step.{fair_step}
use Rattle.actor_turn.specs.Held.{Held}
use Rattle.actor_system.specs.Feeding.{IsNext}
use Rattle.actor_system.specs.Serving.{Serving, StandsAt, after_link, system_in, waits_on}
use Rattle.actor_system.specs.Inside.{IsSound, serving_of}
use Rattle.actor_system.proofs.BringLemmas.{Arrived, in_plan_of, member_at, stands_of, waits_of}
use Rattle.actor_system.proofs.FedLemmas.{fed_arrives, fed_may, fed_nothing, fed_passed, fed_waits, feed_number, get_row, message_at, place_read, row_of, rows_set}
use Rattle.actor_system.proofs.system.System.bring_fed.Goals as goal

-- the feed exists
feeds_of : (s now : Serving) → s ≡ now → (k : ℕ) → k ≤ length now.feeds → k ≤ length s.feeds
feeds_of s now is k l = subst (λ (v : Serving). k ≤ length v.feeds) (sym is) l

-- src/system.rt:102:58
pub index-requires-2 : goal.index-requires-2
index-requires-2 g c =
    let s : Serving = serving_of c.self.inside in
    let sound : IsSound s = c.self.invariant.sound in
    let in_plan = in_plan_of s c.args.self.now c.self.view_is c.args.target c.requires.target in
    let fits = feeds_of s c.args.self.now c.self.view_is c.args.feed c.requires.exists.1 in
    let rows = length-map c.self.inside.places.items (λ row. row.items) in
    let row = get_row c.self.inside.places.items (c.args.feed - 1) c.index.result.now (omega (arith, rows, sound.members.rows, fits, c.requires.exists.0)) c.index.ensures in
    omega (arith, row_of (length s.plan.actors) c.self.inside.places.items (c.args.feed - 1) c.index.result.now row sound.members.row, in_plan)

-- src/system.rt:104:13
pub index_mut-requires-in_default : goal.index_mut-requires-in_default
index_mut-requires-in_default g c =
    let s : Serving = serving_of c.self.inside in
    let sound : IsSound s = c.self.invariant.sound in
    let in_plan = in_plan_of s c.args.self.now c.self.view_is c.args.target c.requires.target in
    let fits = feeds_of s c.args.self.now c.self.view_is c.args.feed c.requires.exists.1 in
    let k : ℕ = c.args.feed - 1 in
    let exists : k < length s.feeds = omega (arith, fits, c.requires.exists.0) in
    let rows = length-map c.self.inside.places.items (λ row. row.items) in
    let again = get_row c.self.inside.places.items k c.index_mut.result.now (omega (arith, rows, sound.members.rows, exists)) c.index_mut.ensures.value in
    omega (arith, row_of (length s.plan.actors) c.self.inside.places.items k c.index_mut.result.now again sound.members.row, in_plan)

-- src/system.rt:105:13
pub invariant_of-self : goal.invariant_of-self
invariant_of-self g c =
    let s : Serving = serving_of c.self.inside in
    let sound : IsSound s = c.self.invariant.sound in
    let in_plan = in_plan_of s c.args.self.now c.self.view_is c.args.target c.requires.target in
    let fits = feeds_of s c.args.self.now c.self.view_is c.args.feed c.requires.exists.1 in
    let k : ℕ = c.args.feed - 1 in
    let exists : k < length s.feeds = omega (arith, fits, c.requires.exists.0) in
    let feed = c.at.ensures.item ∙ ap (λ (posts : List (ℕ × Message)). Some posts) (sym c.as_slice-posts.ensures.same) in
    let rows = length-map c.self.inside.places.items (λ row. row.items) in
    let row = get_row c.self.inside.places.items k c.index.result.now (omega (arith, rows, sound.members.rows, exists)) c.index.ensures in
    let wide = row_of (length s.plan.actors) c.self.inside.places.items k c.index.result.now row sound.members.row in
    let place = place_read c.self.inside.places.items k c.args.target c.index.result.now row c.index-2.result.now c.index-2.result.now (omega (arith, wide, in_plan)) c.index-2.ensures in
    let is = fed_passed s sound c.args.target k in_plan exists c.as_slice-posts.result.now feed c.index-2.result.now place c.in_default.ensures.next in
    let again = get_row c.self.inside.places.items k c.index_mut.result.now (omega (arith, rows, sound.members.rows, exists)) c.index_mut.ensures.value in
    let places = rows_set c.self.inside.places.items k c.args.target (length c.as_slice-posts.result.now) c.index_mut.result.now again (with_item c.index_mut.result.now c.args.target (length c.as_slice-posts.result.now)) refl in
    let at = subst (λ (ps : List (List ℕ)). IsSound (record { plan = s.plan; limits = s.limits; feeds = s.feeds; places = ps; actors = s.actors })) (sym places) is.sound in
    record { sound = at; few = c.self.invariant.few; none = c.self.invariant.none; room = c.self.invariant.room }

pub returns-in_default-clause-served : goal.returns-in_default-clause-served
returns-in_default-clause-served g c =
    let s : Serving = serving_of c.self.inside in
    let sound : IsSound s = c.self.invariant.sound in
    let in_plan = in_plan_of s c.args.self.now c.self.view_is c.args.target c.requires.target in
    let fits = feeds_of s c.args.self.now c.self.view_is c.args.feed c.requires.exists.1 in
    let k : ℕ = c.args.feed - 1 in
    let number : suc k ≡ c.args.feed = feed_number c.args.feed c.requires.exists.0 in
    let exists : k < length s.feeds = omega (arith, fits, c.requires.exists.0) in
    let feed = c.at.ensures.item ∙ ap (λ (posts : List (ℕ × Message)). Some posts) (sym c.as_slice-posts.ensures.same) in
    let rows = length-map c.self.inside.places.items (λ row. row.items) in
    let row = get_row c.self.inside.places.items k c.index.result.now (omega (arith, rows, sound.members.rows, exists)) c.index.ensures in
    let wide = row_of (length s.plan.actors) c.self.inside.places.items k c.index.result.now row sound.members.row in
    let place = place_read c.self.inside.places.items k c.args.target c.index.result.now row c.index-2.result.now c.index-2.result.now (omega (arith, wide, in_plan)) c.index-2.ensures in
    let is = fed_passed s sound c.args.target k in_plan exists c.as_slice-posts.result.now feed c.index-2.result.now place c.in_default.ensures.next in
    let again = get_row c.self.inside.places.items k c.index_mut.result.now (omega (arith, rows, sound.members.rows, exists)) c.index_mut.ensures.value in
    let places = rows_set c.self.inside.places.items k c.args.target (length c.as_slice-posts.result.now) c.index_mut.result.now again (with_item c.index_mut.result.now c.args.target (length c.as_slice-posts.result.now)) refl in
    let at = subst (λ (ps : List (List ℕ)). StandsAt s.plan s.limits s.feeds (after_link s.plan s.limits (system_in s) (c.args.target, Feed (suc k))) (record { plan = s.plan; limits = s.limits; feeds = s.feeds; places = ps; actors = s.actors })) (sym places) is.stands in
    let final : Serving = record {
      plan = s.plan;
      limits = s.limits;
      feeds = s.feeds;
      places = map (λ r. r.items) (slice_set c.self.inside.places.items k (with_item c.index_mut.result.now c.args.target (length c.as_slice-posts.result.now)));
      actors = s.actors;
    } in
    stands_of s c.args.self.now c.self.view_is (c.args.target, Feed c.args.feed) final (subst (λ (n : ℕ). StandsAt s.plan s.limits s.feeds (after_link s.plan s.limits (system_in s) (c.args.target, Feed n)) final) number at)

pub returns-in_default-clause-taken : goal.returns-in_default-clause-taken
returns-in_default-clause-taken g c =
    let s : Serving = serving_of c.self.inside in
    let sound : IsSound s = c.self.invariant.sound in
    let in_plan = in_plan_of s c.args.self.now c.self.view_is c.args.target c.requires.target in
    let fits = feeds_of s c.args.self.now c.self.view_is c.args.feed c.requires.exists.1 in
    let k : ℕ = c.args.feed - 1 in
    let number : suc k ≡ c.args.feed = feed_number c.args.feed c.requires.exists.0 in
    let exists : k < length s.feeds = omega (arith, fits, c.requires.exists.0) in
    let feed = c.at.ensures.item ∙ ap (λ (posts : List (ℕ × Message)). Some posts) (sym c.as_slice-posts.ensures.same) in
    let rows = length-map c.self.inside.places.items (λ row. row.items) in
    let row = get_row c.self.inside.places.items k c.index.result.now (omega (arith, rows, sound.members.rows, exists)) c.index.ensures in
    let wide = row_of (length s.plan.actors) c.self.inside.places.items k c.index.result.now row sound.members.row in
    let place = place_read c.self.inside.places.items k c.args.target c.index.result.now row c.index-2.result.now c.index-2.result.now (omega (arith, wide, in_plan)) c.index-2.ensures in
    waits_of s c.args.self.now c.self.view_is (c.args.target, Feed c.args.feed) _ (fed_nothing s sound c.args.target k in_plan exists c.as_slice-posts.result.now feed c.index-2.result.now place c.in_default.ensures.next ∙ ap (λ (n : ℕ). waits_on (system_in s) (c.args.target, Feed n)) number)

-- src/system.rt:107:24
pub offset_bounds-posts-place : goal.offset_bounds-posts-place
offset_bounds-posts-place g c =
    let next : IsNext c.as_slice-posts.result.now c.index-2.result.now c.args.target c.in-Some.place = c.in-Some.ensures.next in
    let within = slice_get_within c.as_slice-posts.result.now c.in-Some.place (c.args.target, next.message) next.here in
    omega (arith, within, c.as_slice-posts.type_inv.1)

pub bounds-posts-place : goal.bounds-posts-place
bounds-posts-place g c =
    let next : IsNext c.as_slice-posts.result.now c.index-2.result.now c.args.target c.in-Some.place = c.in-Some.ensures.next in
    slice_get_within c.as_slice-posts.result.now c.in-Some.place (c.args.target, next.message) next.here

-- src/system.rt:108:30
pub arrive-requires : goal.arrive-requires
arrive-requires g c =
    let s : Serving = serving_of c.self.inside in
    let sound : IsSound s = c.self.invariant.sound in
    let in_plan = in_plan_of s c.args.self.now c.self.view_is c.args.target c.requires.target in
    let fits = feeds_of s c.args.self.now c.self.view_is c.args.feed c.requires.exists.1 in
    let k : ℕ = c.args.feed - 1 in
    let number : suc k ≡ c.args.feed = feed_number c.args.feed c.requires.exists.0 in
    let exists : k < length s.feeds = omega (arith, fits, c.requires.exists.0) in
    let feed = c.at.ensures.item ∙ ap (λ (posts : List (ℕ × Message)). Some posts) (sym c.as_slice-posts.ensures.same) in
    let rows = length-map c.self.inside.places.items (λ row. row.items) in
    let row = get_row c.self.inside.places.items k c.index.result.now (omega (arith, rows, sound.members.rows, exists)) c.index.ensures in
    let wide = row_of (length s.plan.actors) c.self.inside.places.items k c.index.result.now row sound.members.row in
    let place = place_read c.self.inside.places.items k c.args.target c.index.result.now row c.index-2.result.now c.index-2.result.now (omega (arith, wide, in_plan)) c.index-2.ensures in
    let next : IsNext c.as_slice-posts.result.now c.index-2.result.now c.args.target c.in-Some.place = c.in-Some.ensures.next in
    let here = member_at s sound c.args.target in_plan c.index_mut-2.result.now c.index_mut-2.ensures.value in
    record { exists = subst (λ (n : ℕ). HasCount c.index_mut-2.result.now.state.late (Feed n)) number (fed_may s sound c.args.target k in_plan exists c.as_slice-posts.result.now feed c.index-2.result.now place c.in-Some.place next c.index_mut-2.result.now here) }

-- src/system.rt:109:36
pub overflow_add-place : goal.overflow_add-place
overflow_add-place g c =
    let next : IsNext c.as_slice-posts.result.now c.index-2.result.now c.args.target c.in-Some.place = c.in-Some.ensures.next in
    let within = slice_get_within c.as_slice-posts.result.now c.in-Some.place (c.args.target, next.message) next.here in
    omega (arith, within, c.as_slice-posts.type_inv.1)

-- src/system.rt:109:9
pub index_mut-requires-4 : goal.index_mut-requires-4
index_mut-requires-4 g c =
    let s : Serving = serving_of c.self.inside in
    let sound : IsSound s = c.self.invariant.sound in
    let in_plan = in_plan_of s c.args.self.now c.self.view_is c.args.target c.requires.target in
    let fits = feeds_of s c.args.self.now c.self.view_is c.args.feed c.requires.exists.1 in
    let k : ℕ = c.args.feed - 1 in
    let number : suc k ≡ c.args.feed = feed_number c.args.feed c.requires.exists.0 in
    let exists : k < length s.feeds = omega (arith, fits, c.requires.exists.0) in
    let feed = c.at.ensures.item ∙ ap (λ (posts : List (ℕ × Message)). Some posts) (sym c.as_slice-posts.ensures.same) in
    let rows = length-map c.self.inside.places.items (λ row. row.items) in
    let row = get_row c.self.inside.places.items k c.index.result.now (omega (arith, rows, sound.members.rows, exists)) c.index.ensures in
    let wide = row_of (length s.plan.actors) c.self.inside.places.items k c.index.result.now row sound.members.row in
    let place = place_read c.self.inside.places.items k c.args.target c.index.result.now row c.index-2.result.now c.index-2.result.now (omega (arith, wide, in_plan)) c.index-2.ensures in
    let again = get_row c.self.inside.places.items k c.index_mut-3.result.now (omega (arith, rows, sound.members.rows, exists)) c.index_mut-3.ensures.value in
    omega (arith, row_of (length s.plan.actors) c.self.inside.places.items k c.index_mut-3.result.now again sound.members.row, in_plan)

pub invariant_of-self-2 : goal.invariant_of-self-2
invariant_of-self-2 g c =
    let s : Serving = serving_of c.self.inside in
    let sound : IsSound s = c.self.invariant.sound in
    let in_plan = in_plan_of s c.args.self.now c.self.view_is c.args.target c.requires.target in
    let fits = feeds_of s c.args.self.now c.self.view_is c.args.feed c.requires.exists.1 in
    let k : ℕ = c.args.feed - 1 in
    let number : suc k ≡ c.args.feed = feed_number c.args.feed c.requires.exists.0 in
    let exists : k < length s.feeds = omega (arith, fits, c.requires.exists.0) in
    let feed = c.at.ensures.item ∙ ap (λ (posts : List (ℕ × Message)). Some posts) (sym c.as_slice-posts.ensures.same) in
    let rows = length-map c.self.inside.places.items (λ row. row.items) in
    let row = get_row c.self.inside.places.items k c.index.result.now (omega (arith, rows, sound.members.rows, exists)) c.index.ensures in
    let wide = row_of (length s.plan.actors) c.self.inside.places.items k c.index.result.now row sound.members.row in
    let place = place_read c.self.inside.places.items k c.args.target c.index.result.now row c.index-2.result.now c.index-2.result.now (omega (arith, wide, in_plan)) c.index-2.ensures in
    let next : IsNext c.as_slice-posts.result.now c.index-2.result.now c.args.target c.in-Some.place = c.in-Some.ensures.next in
    let here = member_at s sound c.args.target in_plan c.index_mut-2.result.now c.index_mut-2.ensures.value in
    let message = message_at c.as_slice-posts.result.now c.in-Some.place c.args.target next.message next.here c.index-posts-place.result in
    let arrived : Arrived c.index_mut-2.result.now c.arrive.new.self (Feed (suc k)) next.message 0 c.in_ok-arrive.field-0 = record {
      step = (λ i. fair_step c.index_mut-2.result.now.setting c.index_mut-2.result.now.state (Feed (number i)) (sym message i) 0) ∙ c.in_ok-arrive.ensures.step;
      setting = c.in_ok-arrive.ensures.setting;
      outbox = c.in_ok-arrive.ensures.outbox;
      lent = c.in_ok-arrive.ensures.lent;
    } in
    let is = fed_arrives s sound c.args.target k in_plan exists c.as_slice-posts.result.now feed c.index-2.result.now place c.in-Some.place next c.index_mut-2.result.now here c.arrive.new.self c.in_ok-arrive.field-0 arrived in
    let again = get_row c.self.inside.places.items k c.index_mut-3.result.now (omega (arith, rows, sound.members.rows, exists)) c.index_mut-3.ensures.value in
    let places = rows_set c.self.inside.places.items k c.args.target (c.in-Some.place + 1) c.index_mut-3.result.now again (with_item c.index_mut-3.result.now c.args.target (c.in-Some.place + 1)) refl in
    let list : List Held = slice_set s.actors c.args.target c.arrive.new.self in
    let at = subst (λ (ps : List (List ℕ)). IsSound (record { plan = s.plan; limits = s.limits; feeds = s.feeds; places = ps; actors = list })) (sym places) is.sound in
    record { sound = at; few = c.self.invariant.few; none = c.self.invariant.none; room = c.self.invariant.room }

-- src/system.rt:85:5
pub returns-clause-served : goal.returns-clause-served
returns-clause-served g c =
    let s : Serving = serving_of c.self.inside in
    let sound : IsSound s = c.self.invariant.sound in
    let in_plan = in_plan_of s c.args.self.now c.self.view_is c.args.target c.requires.target in
    let fits = feeds_of s c.args.self.now c.self.view_is c.args.feed c.requires.exists.1 in
    let k : ℕ = c.args.feed - 1 in
    let number : suc k ≡ c.args.feed = feed_number c.args.feed c.requires.exists.0 in
    let exists : k < length s.feeds = omega (arith, fits, c.requires.exists.0) in
    let feed = c.at.ensures.item ∙ ap (λ (posts : List (ℕ × Message)). Some posts) (sym c.as_slice-posts.ensures.same) in
    let rows = length-map c.self.inside.places.items (λ row. row.items) in
    let row = get_row c.self.inside.places.items k c.index.result.now (omega (arith, rows, sound.members.rows, exists)) c.index.ensures in
    let wide = row_of (length s.plan.actors) c.self.inside.places.items k c.index.result.now row sound.members.row in
    let place = place_read c.self.inside.places.items k c.args.target c.index.result.now row c.index-2.result.now c.index-2.result.now (omega (arith, wide, in_plan)) c.index-2.ensures in
    let next : IsNext c.as_slice-posts.result.now c.index-2.result.now c.args.target c.in-Some.place = c.in-Some.ensures.next in
    let here = member_at s sound c.args.target in_plan c.index_mut-2.result.now c.index_mut-2.ensures.value in
    let message = message_at c.as_slice-posts.result.now c.in-Some.place c.args.target next.message next.here c.index-posts-place.result in
    let arrived : Arrived c.index_mut-2.result.now c.arrive.new.self (Feed (suc k)) next.message 0 c.in_ok-arrive.field-0 = record {
      step = (λ i. fair_step c.index_mut-2.result.now.setting c.index_mut-2.result.now.state (Feed (number i)) (sym message i) 0) ∙ c.in_ok-arrive.ensures.step;
      setting = c.in_ok-arrive.ensures.setting;
      outbox = c.in_ok-arrive.ensures.outbox;
      lent = c.in_ok-arrive.ensures.lent;
    } in
    let is = fed_arrives s sound c.args.target k in_plan exists c.as_slice-posts.result.now feed c.index-2.result.now place c.in-Some.place next c.index_mut-2.result.now here c.arrive.new.self c.in_ok-arrive.field-0 arrived in
    let again = get_row c.self.inside.places.items k c.index_mut-3.result.now (omega (arith, rows, sound.members.rows, exists)) c.index_mut-3.ensures.value in
    let places = rows_set c.self.inside.places.items k c.args.target (c.in-Some.place + 1) c.index_mut-3.result.now again (with_item c.index_mut-3.result.now c.args.target (c.in-Some.place + 1)) refl in
    let list : List Held = slice_set s.actors c.args.target c.arrive.new.self in
    let at = subst (λ (ps : List (List ℕ)). StandsAt s.plan s.limits s.feeds (after_link s.plan s.limits (system_in s) (c.args.target, Feed (suc k))) (record { plan = s.plan; limits = s.limits; feeds = s.feeds; places = ps; actors = list })) (sym places) is.stands in
    let final : Serving = record {
      plan = s.plan;
      limits = s.limits;
      feeds = s.feeds;
      places = map (λ r. r.items) (slice_set c.self.inside.places.items k (with_item c.index_mut-3.result.now c.args.target (c.in-Some.place + 1)));
      actors = list;
    } in
    stands_of s c.args.self.now c.self.view_is (c.args.target, Feed c.args.feed) final (subst (λ (n : ℕ). StandsAt s.plan s.limits s.feeds (after_link s.plan s.limits (system_in s) (c.args.target, Feed n)) final) number at)

pub returns-clause-taken : goal.returns-clause-taken
returns-clause-taken g c =
    let s : Serving = serving_of c.self.inside in
    let sound : IsSound s = c.self.invariant.sound in
    let in_plan = in_plan_of s c.args.self.now c.self.view_is c.args.target c.requires.target in
    let fits = feeds_of s c.args.self.now c.self.view_is c.args.feed c.requires.exists.1 in
    let k : ℕ = c.args.feed - 1 in
    let number : suc k ≡ c.args.feed = feed_number c.args.feed c.requires.exists.0 in
    let exists : k < length s.feeds = omega (arith, fits, c.requires.exists.0) in
    let feed = c.at.ensures.item ∙ ap (λ (posts : List (ℕ × Message)). Some posts) (sym c.as_slice-posts.ensures.same) in
    let rows = length-map c.self.inside.places.items (λ row. row.items) in
    let row = get_row c.self.inside.places.items k c.index.result.now (omega (arith, rows, sound.members.rows, exists)) c.index.ensures in
    let wide = row_of (length s.plan.actors) c.self.inside.places.items k c.index.result.now row sound.members.row in
    let place = place_read c.self.inside.places.items k c.args.target c.index.result.now row c.index-2.result.now c.index-2.result.now (omega (arith, wide, in_plan)) c.index-2.ensures in
    let next : IsNext c.as_slice-posts.result.now c.index-2.result.now c.args.target c.in-Some.place = c.in-Some.ensures.next in
    waits_of s c.args.self.now c.self.view_is (c.args.target, Feed c.args.feed) _ (fed_waits s sound c.args.target k in_plan exists c.as_slice-posts.result.now feed c.index-2.result.now place c.in-Some.place next ∙ ap (λ (n : ℕ). waits_on (system_in s) (c.args.target, Feed n)) number)
