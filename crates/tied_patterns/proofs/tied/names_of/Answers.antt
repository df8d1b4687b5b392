use Rattle.std.proofs.Common.{◌≡◌, ◌∙◌, List, [], ap, get_or, subst, sym}
use Rattle.std.proofs.lemmas.List.{get_or_default}
use Rattle.tied_patterns.specs.declared.equality.Equality.{Equality}
use Rattle.tied_patterns.specs.Names.{AreNames, renamed_by}
use Rattle.tied_patterns.proofs.NameLemmas.{names_step, no_names}
use Rattle.tied_patterns.proofs.tied.names_of.Goals as goal

pub loop-equality-init : goal.loop-equality-init
loop-equality-init c = subst (λ (names : List Equality). AreNames [] names) (sym c.new-names.ensures.items) no_names

pub loop-equality-preserved : goal.loop-equality-preserved
loop-equality-preserved c =
    let other : Equality = record { left = record { pattern = 0; field = 0 }; right = record { pattern = 0; field = 0 } } in
    let e : Equality = get_or c.args.equalities.now c.loop-equality.equality-index other in
    let name : Equality = record { left = c.renamed_by-left.result; right = c.renamed_by-right.result } in
    let left : c.renamed_by-left.result ≡ renamed_by c.loop-equality.names.items e.left = c.renamed_by-left.ensures ∙ ap (λ (names : List Equality). renamed_by names e.left) c.as_slice.ensures.value in
    let right : c.renamed_by-right.result ≡ renamed_by c.loop-equality.names.items e.right =
    c.renamed_by-right.ensures ∙ ap (λ (names : List Equality). renamed_by names e.right) c.as_slice-in-loop-equality.ensures.value
    in
    names_step c.args.equalities.now c.loop-equality.names.items c.push.new.self.items c.loop-equality.equality-index e name c.loop-equality.invariant c.loop-equality-test.true
    (sym (get_or_default c.args.equalities.now c.loop-equality.equality-index e other c.loop-equality-test.true))
    (λ i. record { left = left i; right = right i }) c.in_ok-push.ensures.items
