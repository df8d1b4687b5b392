use Rattle.std.proofs.Common.{List, Option, ap, ◌∙◌}
use Rattle.script_grammar.specs.declared.tree.FieldDecl.{FieldDecl}
use Rattle.script_faults.specs.First.{first_of}
use Rattle.script_faults.specs.Faults.{count_faults, fields_of, fields_or_none}
use Rattle.script_faults.proofs.PostLemmas.{noted_values}
use Rattle.script_faults.proofs.post.note_values.Goals as goal

pub returns-clause-gives : goal.returns-clause-gives
returns-clause-gives c =
    let all = c.fields_of-fields.ensures ∙ ap (fields_of c.args.scope.now.messages.now.decls.now) c.bytes.ensures.same in
    let last = c.note_listed.new.noter in
    noted_values c.args.scope.now.variables c.known_fields.result c.args.found.now c.note_count.new.found _ c.args.kind.now last c.note_listed.new.tokens _ c.in_ok-note_listed.ensures.gives
    (c.known_fields.ensures ∙ ap fields_or_none all) (c.note_count.ensures ∙ ap (λ (o : Option (List FieldDecl)). first_of last.found (count_faults o c.args.kind.now last.number)) all)
