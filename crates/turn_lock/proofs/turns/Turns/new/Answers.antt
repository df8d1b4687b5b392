use Rattle.std.proofs.Common.{rules, ◌≡◌, ◌≤◌, length, map, replicate, sym, ap, ◌∙◌, subst, Some}
use Rattle.std.specs.Prelude.{All}
use Rattle.std.proofs.lemmas.List.{length-take-le}
use Rattle.turn_lock.proofs.Opening.{zeros_cut, zeros_all}
use Rattle.turn_lock.proofs.Ruled.{opens}
use Rattle.turn_lock.proofs.turns.Turns.new.Goals as goal

pub new-requires : goal.new-requires
new-requires g c =
    let same : c.of-about.result.value.items ≡ c.args.cells = ap (λ v. v.items) c.of-about.ensures ∙ c.into_vec-cells.ensures.same in
    let few : c.len-count.result ≤ 32 = search rules in
    let len : c.len-count.result ≡ length c.args.cells = search rules in opens g.row.C-Tally.Denot g.C.TurnCell.tag g.C.TurnCell.lawful g.C.TurnCell.history _ _ _
    (subst (λ v. All g.C.TurnCell.lawful v) (sym same) c.requires.lawful)
    (c.in_ok-slots.ensures.slots ∙ ap (map Some) (c.into_vec-cells.ensures.same ∙ sym same))
    (length-take-le c.len-count.result (replicate 32 0) few ∙ (len ∙ ap length (sym same)))
    (zeros_cut (replicate 32 0) c.len-count.result (zeros_all 32))
