use Rattle.std.proofs.Common.{◌≡◌, ℕ, Vec, Global, ◌<◌, ◌≤◌, arith, sym, subst, ◌∙◌, ◌∷◌, [], ◌++◌, List, ap, length, map, take, All}
use Rattle.std.proofs.lemmas.List.{get_or-map, length-append, length-map, take_all}
use Rattle.std.proofs.lemmas.List.Elements.{All-push}
use Rattle.cell_links.specs.declared.ends.Outward.{Outward}
use Rattle.cell_links.specs.Wiring.{AreLinked, feed_keys}
use Rattle.cell_links.specs.Making.{IsNewOut, keys_from, sending_from}
use Rattle.cell_links.proofs.ConnectingLemmas.{actor-more, targets-more, targets-of}
use Rattle.cell_links.proofs.connecting.connect_actors.Goals as goal

pub loop-i-preserved : goal.loop-i-preserved
loop-i-preserved c =
    let before = c.loop-i.invariant in
    let step = c.in_ok-outward.ensures in
    let made = c.in_ok-outward.outward.items in
    let items = c.in_ok-push.ensures.items ∙ ap (λ (l : List Outward). c.loop-i.outwards.items ++ l ∷ []) c.from_vec.ensures.same in
    let now = c.connect_source.new.inwards.items in
    let i = c.loop-i.i in
    let all = map (λ (ts : Vec ℕ Global). ts.items) c.args.targets.now in
    record {
      count = step.count ∙ before.count;
      outwards = omega (arith, ap length items, length-append c.loop-i.outwards.items (made ∷ []), before.outwards);
      targets = ap targets-of items ∙ targets-more c.loop-i.outwards.items made c.index-targets-i.result.items all i
          (subst (λ (n : ℕ). i < n) (sym (length-map c.args.targets.now (λ (ts : Vec ℕ Global). ts.items))) c.loop-i-test.true)
          (get_or-map (λ (ts : Vec ℕ Global). ts.items) c.args.targets.now i c.index-targets-i.result c.index-targets-i.result.items c.loop-i-test.true ∙ ap (λ (ts : Vec ℕ Global). ts.items) (sym c.index-targets-i.is)) (step.targets ∙ c.as_slice.ensures.value) before.targets;
      sends = subst (λ (l : List (List Outward)). All (All (IsNewOut c.args.ring)) l) (sym items) (All-push (All (IsNewOut c.args.ring)) c.loop-i.outwards.items made before.sends step.sends);
      fresh = λ all. step.fresh (before.fresh all);
      linked = λ tags linked. subst (λ (l : List (List Outward)). AreLinked (feed_keys 1 tags ++ sending_from 0 l) (keys_from 0 now)) (sym items)
          (actor-more c.loop-i.i c.loop-i.outwards.items made c.loop-i.inwards.items now tags before.outwards (before.linked tags linked) step.linked);
    }

pub returns-clause-targets : goal.returns-clause-targets
returns-clause-targets c = c.loop-i.invariant.targets ∙ take_all c.loop-i.i (map (λ (ts : Vec ℕ Global). ts.items) c.args.targets.now) (subst (λ (n : ℕ). n ≤ c.loop-i.i) (sym (length-map c.args.targets.now (λ (ts : Vec ℕ Global). ts.items))) c.loop-i-test.false)
