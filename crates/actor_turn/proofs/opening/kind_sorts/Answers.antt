use Rattle.std.proofs.Common.{◌∙◌, ℕ, ◌∷◌, [], ◌++◌, List, take, map, ap, sym}
use Rattle.std.proofs.lemmas.List.{take_more, map-append}
use Rattle.join_base.specs.declared.message.Sort.{Sort}
use Rattle.script_types.specs.declared.plan.Kind.{Kind}
use Rattle.script_types.specs.Typed.{kind_types}
use Rattle.actor_turn.proofs.opening.kind_sorts.Goals as goal

pub loop-kind-preserved : goal.loop-kind-preserved
loop-kind-preserved c =
    let kinds : List Kind = c.as_slice-kind-items.result.now in
    let i : ℕ = c.loop-kind.kind-index in
    let more = take_more kinds i c.kind-item.result c.loop-kind-test.true ∙ ap (λ (k : Kind). take i kinds ++ k ∷ []) (sym c.kind-item.is) in
    c.in_ok-push.ensures.ok
    ∙ (λ j. c.loop-kind.invariant j ++ c.in_ok-own.ensures j ∷ [])
    ∙ sym (ap kind_types more ∙ map-append (λ (k : Kind). map (λ (field : List ℕ × Sort). field.1) k.fields) (take i kinds) (c.kind-item.result ∷ []))
