use Rattle.std.proofs.Common.{◌∙◌, List, slice_set, refl, ap, sym, arith}
use Rattle.std.proofs.lemmas.List.{length-set}
use Rattle.join_base.specs.declared.message.Message.{Message}
use Rattle.join_base.specs.declared.message.Source.TheVariants.{Actor}
use Rattle.actor_turn.specs.Held.{Held, with_first}
use Rattle.actor_system.specs.Serving.{Serving}
use Rattle.actor_system.specs.Inside.{IsSound, serving_of}
use Rattle.actor_system.proofs.BringLemmas.{has_outbox, in_plan_of, member_at, posted_arrives, posted_back, posted_lent, posted_may, posted_none, posted_nothing, posted_place, posted_waits, stands_of, stays_of, waits_of}
use Rattle.actor_system.proofs.SoundLemmas.{get_at}
use Rattle.actor_system.proofs.system.System.bring_posted.Goals as goal

-- src/system.rt:123:26
pub take_post-requires : goal.take_post-requires
take_post-requires g c =
    let s : Serving = serving_of c.self.inside in
    let sound : IsSound s = c.self.invariant.sound in
    let in_plan = in_plan_of s c.args.self.now c.self.view_is c.args.target c.requires.target in
    let exists = in_plan_of s c.args.self.now c.self.view_is c.args.sender c.requires.exists in
    let at = member_at s sound c.args.sender exists c.index_mut.result.now c.index_mut.ensures.value in
    record { exists = has_outbox s sound c.args.target c.args.sender in_plan exists c.index_mut.result.now at _ refl }

-- src/system.rt:124:13
pub invariant_of-self : goal.invariant_of-self
invariant_of-self g c =
    let s : Serving = serving_of c.self.inside in
    let sound : IsSound s = c.self.invariant.sound in
    let in_plan = in_plan_of s c.args.self.now c.self.view_is c.args.target c.requires.target in
    let exists = in_plan_of s c.args.self.now c.self.view_is c.args.sender c.requires.exists in
    let at = member_at s sound c.args.sender exists c.index_mut.result.now c.index_mut.ensures.value in
    let is = posted_none s sound c.args.target c.args.sender in_plan exists c.index_mut.result.now at c.take_post.new.self c.take_post.ensures.taken (sym c.take_post.ensures.first ∙ c.in_default.is) in
    record { sound = is.sound; few = c.self.invariant.few; none = c.self.invariant.none; room = c.self.invariant.room }

pub returns-in_default-clause-served : goal.returns-in_default-clause-served
returns-in_default-clause-served g c =
    let s : Serving = serving_of c.self.inside in
    let sound : IsSound s = c.self.invariant.sound in
    let in_plan = in_plan_of s c.args.self.now c.self.view_is c.args.target c.requires.target in
    let exists = in_plan_of s c.args.self.now c.self.view_is c.args.sender c.requires.exists in
    let at = member_at s sound c.args.sender exists c.index_mut.result.now c.index_mut.ensures.value in
    let is = posted_none s sound c.args.target c.args.sender in_plan exists c.index_mut.result.now at c.take_post.new.self c.take_post.ensures.taken (sym c.take_post.ensures.first ∙ c.in_default.is) in
    stands_of s c.args.self.now c.self.view_is (c.args.target, Actor c.args.sender) _ is.stands

pub returns-in_default-clause-taken : goal.returns-in_default-clause-taken
returns-in_default-clause-taken g c =
    let s : Serving = serving_of c.self.inside in
    let sound : IsSound s = c.self.invariant.sound in
    let in_plan = in_plan_of s c.args.self.now c.self.view_is c.args.target c.requires.target in
    let exists = in_plan_of s c.args.self.now c.self.view_is c.args.sender c.requires.exists in
    let at = member_at s sound c.args.sender exists c.index_mut.result.now c.index_mut.ensures.value in
    waits_of s c.args.self.now c.self.view_is (c.args.target, Actor c.args.sender) _
    (posted_nothing s sound c.args.target c.args.sender in_plan exists c.index_mut.result.now at c.take_post.new.self c.take_post.ensures.taken (sym c.take_post.ensures.first ∙ c.in_default.is))

-- src/system.rt:128:15
pub receive-requires : goal.receive-requires
receive-requires g c =
    let s : Serving = serving_of c.self.inside in
    let sound : IsSound s = c.self.invariant.sound in
    let in_plan = in_plan_of s c.args.self.now c.self.view_is c.args.target c.requires.target in
    let exists = in_plan_of s c.args.self.now c.self.view_is c.args.sender c.requires.exists in
    let at = member_at s sound c.args.sender exists c.index_mut.result.now c.index_mut.ensures.value in
    let left : List Held = slice_set s.actors c.args.sender c.take_post.new.self in
    let here = get_at left c.args.target c.index_mut-actor.result.now (omega (arith, length-set s.actors c.args.sender c.take_post.new.self, sound.members.count, in_plan)) c.index_mut-actor.ensures.value in
    record { exists = posted_may s sound c.args.target c.args.sender in_plan exists c.index_mut.result.now at c.take_post.new.self c.take_post.ensures.taken c.in-Some.post (sym c.take_post.ensures.first ∙ c.in-Some.is) c.index_mut-actor.result.now here }

pub invariant_of-self-in-Ok : goal.invariant_of-self-in-Ok
invariant_of-self-in-Ok g c =
    let s : Serving = serving_of c.self.inside in
    let sound : IsSound s = c.self.invariant.sound in
    let in_plan = in_plan_of s c.args.self.now c.self.view_is c.args.target c.requires.target in
    let exists = in_plan_of s c.args.self.now c.self.view_is c.args.sender c.requires.exists in
    let at = member_at s sound c.args.sender exists c.index_mut.result.now c.index_mut.ensures.value in
    let left : List Held = slice_set s.actors c.args.sender c.take_post.new.self in
    let here = get_at left c.args.target c.index_mut-actor.result.now (omega (arith, length-set s.actors c.args.sender c.take_post.new.self, sound.members.count, in_plan)) c.index_mut-actor.ensures.value in
    let is = posted_arrives s sound c.args.target c.args.sender in_plan exists c.index_mut.result.now at c.take_post.new.self c.take_post.ensures.taken c.in-Some.post (sym c.take_post.ensures.first ∙ c.in-Some.is) c.index_mut-actor.result.now here
    c.receive.new.self c.in-Ok.field-0 record { step = c.in-Ok.ensures.step; setting = c.in-Ok.ensures.setting; outbox = c.in-Ok.ensures.outbox; lent = c.in-Ok.ensures.lent } in
    record { sound = is.sound; few = c.self.invariant.few; none = c.self.invariant.none; room = c.self.invariant.room }

pub returns-in-Ok-clause-served : goal.returns-in-Ok-clause-served
returns-in-Ok-clause-served g c =
    let s : Serving = serving_of c.self.inside in
    let sound : IsSound s = c.self.invariant.sound in
    let in_plan = in_plan_of s c.args.self.now c.self.view_is c.args.target c.requires.target in
    let exists = in_plan_of s c.args.self.now c.self.view_is c.args.sender c.requires.exists in
    let at = member_at s sound c.args.sender exists c.index_mut.result.now c.index_mut.ensures.value in
    let left : List Held = slice_set s.actors c.args.sender c.take_post.new.self in
    let here = get_at left c.args.target c.index_mut-actor.result.now (omega (arith, length-set s.actors c.args.sender c.take_post.new.self, sound.members.count, in_plan)) c.index_mut-actor.ensures.value in
    let is = posted_arrives s sound c.args.target c.args.sender in_plan exists c.index_mut.result.now at c.take_post.new.self c.take_post.ensures.taken c.in-Some.post (sym c.take_post.ensures.first ∙ c.in-Some.is) c.index_mut-actor.result.now here
    c.receive.new.self c.in-Ok.field-0 record { step = c.in-Ok.ensures.step; setting = c.in-Ok.ensures.setting; outbox = c.in-Ok.ensures.outbox; lent = c.in-Ok.ensures.lent } in
    stands_of s c.args.self.now c.self.view_is (c.args.target, Actor c.args.sender) _ is.stands

pub returns-in-Ok-clause-taken : goal.returns-in-Ok-clause-taken
returns-in-Ok-clause-taken g c =
    let s : Serving = serving_of c.self.inside in
    let sound : IsSound s = c.self.invariant.sound in
    let in_plan = in_plan_of s c.args.self.now c.self.view_is c.args.target c.requires.target in
    let exists = in_plan_of s c.args.self.now c.self.view_is c.args.sender c.requires.exists in
    let at = member_at s sound c.args.sender exists c.index_mut.result.now c.index_mut.ensures.value in
    waits_of s c.args.self.now c.self.view_is (c.args.target, Actor c.args.sender) _
    (posted_waits s sound c.args.target c.args.sender in_plan exists c.index_mut.result.now at c.take_post.new.self c.take_post.ensures.taken c.in-Some.post (sym c.take_post.ensures.first ∙ c.in-Some.is))

-- src/system.rt:131:17
pub return_post-requires-clause-exists : goal.return_post-requires-clause-exists
return_post-requires-clause-exists g c =
    let s : Serving = serving_of c.self.inside in
    let sound : IsSound s = c.self.invariant.sound in
    let in_plan = in_plan_of s c.args.self.now c.self.view_is c.args.target c.requires.target in
    let exists = in_plan_of s c.args.self.now c.self.view_is c.args.sender c.requires.exists in
    let at = member_at s sound c.args.sender exists c.index_mut.result.now c.index_mut.ensures.value in
    let left : List Held = slice_set s.actors c.args.sender c.take_post.new.self in
    let count = length-set s.actors c.args.sender c.take_post.new.self in
    let here = get_at left c.args.target c.index_mut-actor.result.now (omega (arith, count, sound.members.count, in_plan)) c.index_mut-actor.ensures.value in
    let there = get_at (slice_set left c.args.target c.receive.new.self) c.args.sender c.index_mut-in-Err.result.now (omega (arith, length-set left c.args.target c.receive.new.self, count, sound.members.count, exists)) c.index_mut-in-Err.ensures.value in
    posted_place s sound c.args.target c.args.sender in_plan exists c.index_mut.result.now at c.take_post.new.self c.take_post.ensures.taken c.in-Some.post (sym c.take_post.ensures.first ∙ c.in-Some.is) c.index_mut-actor.result.now here
    c.receive.new.self c.in-Err.ensures.unchanged c.index_mut-in-Err.result.now c.index_mut-in-Err.result.now there

pub return_post-requires-clause-lent : goal.return_post-requires-clause-lent
return_post-requires-clause-lent g c =
    let s : Serving = serving_of c.self.inside in
    let sound : IsSound s = c.self.invariant.sound in
    let in_plan = in_plan_of s c.args.self.now c.self.view_is c.args.target c.requires.target in
    let exists = in_plan_of s c.args.self.now c.self.view_is c.args.sender c.requires.exists in
    let at = member_at s sound c.args.sender exists c.index_mut.result.now c.index_mut.ensures.value in
    let left : List Held = slice_set s.actors c.args.sender c.take_post.new.self in
    let count = length-set s.actors c.args.sender c.take_post.new.self in
    let here = get_at left c.args.target c.index_mut-actor.result.now (omega (arith, count, sound.members.count, in_plan)) c.index_mut-actor.ensures.value in
    let there = get_at (slice_set left c.args.target c.receive.new.self) c.args.sender c.index_mut-in-Err.result.now (omega (arith, length-set left c.args.target c.receive.new.self, count, sound.members.count, exists)) c.index_mut-in-Err.ensures.value in
    posted_lent s sound c.args.target c.args.sender in_plan exists c.index_mut.result.now at c.take_post.new.self c.take_post.ensures.taken c.in-Some.post (sym c.take_post.ensures.first ∙ c.in-Some.is) c.index_mut-actor.result.now here
    c.receive.new.self c.in-Err.ensures.unchanged c.index_mut-in-Err.result.now c.index_mut-in-Err.result.now there

pub invariant_of-self-in-Err : goal.invariant_of-self-in-Err
invariant_of-self-in-Err g c =
    let s : Serving = serving_of c.self.inside in
    let sound : IsSound s = c.self.invariant.sound in
    let in_plan = in_plan_of s c.args.self.now c.self.view_is c.args.target c.requires.target in
    let exists = in_plan_of s c.args.self.now c.self.view_is c.args.sender c.requires.exists in
    let at = member_at s sound c.args.sender exists c.index_mut.result.now c.index_mut.ensures.value in
    let left : List Held = slice_set s.actors c.args.sender c.take_post.new.self in
    let count = length-set s.actors c.args.sender c.take_post.new.self in
    let here = get_at left c.args.target c.index_mut-actor.result.now (omega (arith, count, sound.members.count, in_plan)) c.index_mut-actor.ensures.value in
    let there = get_at (slice_set left c.args.target c.receive.new.self) c.args.sender c.index_mut-in-Err.result.now (omega (arith, length-set left c.args.target c.receive.new.self, count, sound.members.count, exists)) c.index_mut-in-Err.ensures.value in
    let is = posted_back s sound c.args.target c.args.sender in_plan exists c.index_mut.result.now at c.take_post.new.self c.take_post.ensures.taken c.in-Some.post (sym c.take_post.ensures.first ∙ c.in-Some.is) c.index_mut-actor.result.now here
    c.receive.new.self c.in-Err.ensures.unchanged c.index_mut-in-Err.result.now c.return_post.new.self there (c.return_post.ensures.returned ∙ ap (λ (m : Message). with_first c.index_mut-in-Err.result.now c.args.target (record { message = m; stamp = c.in-Some.post.stamp })) c.in-Err.ensures.back) in
    record { sound = is.sound; few = c.self.invariant.few; none = c.self.invariant.none; room = c.self.invariant.room }

pub returns-in-Err-clause-unchanged : goal.returns-in-Err-clause-unchanged
returns-in-Err-clause-unchanged g c =
    let s : Serving = serving_of c.self.inside in
    let sound : IsSound s = c.self.invariant.sound in
    let in_plan = in_plan_of s c.args.self.now c.self.view_is c.args.target c.requires.target in
    let exists = in_plan_of s c.args.self.now c.self.view_is c.args.sender c.requires.exists in
    let at = member_at s sound c.args.sender exists c.index_mut.result.now c.index_mut.ensures.value in
    let left : List Held = slice_set s.actors c.args.sender c.take_post.new.self in
    let count = length-set s.actors c.args.sender c.take_post.new.self in
    let here = get_at left c.args.target c.index_mut-actor.result.now (omega (arith, count, sound.members.count, in_plan)) c.index_mut-actor.ensures.value in
    let there = get_at (slice_set left c.args.target c.receive.new.self) c.args.sender c.index_mut-in-Err.result.now (omega (arith, length-set left c.args.target c.receive.new.self, count, sound.members.count, exists)) c.index_mut-in-Err.ensures.value in
    let is = posted_back s sound c.args.target c.args.sender in_plan exists c.index_mut.result.now at c.take_post.new.self c.take_post.ensures.taken c.in-Some.post (sym c.take_post.ensures.first ∙ c.in-Some.is) c.index_mut-actor.result.now here
    c.receive.new.self c.in-Err.ensures.unchanged c.index_mut-in-Err.result.now c.return_post.new.self there (c.return_post.ensures.returned ∙ ap (λ (m : Message). with_first c.index_mut-in-Err.result.now c.args.target (record { message = m; stamp = c.in-Some.post.stamp })) c.in-Err.ensures.back) in
    stays_of s c.args.self.now c.self.view_is _ is.stands
