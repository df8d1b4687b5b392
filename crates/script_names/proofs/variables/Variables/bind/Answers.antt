use Rattle.std.proofs.Common.{◌++◌, ◌∷◌, [], List, ℕ, Bor, map, not, is_some, sym, ap, ◌∙◌}
use Rattle.std.proofs.lemmas.List.{map_push}
use Rattle.indexmap.proofs.CallerLemmas.{insert_entry-new}
use Rattle.join_base.specs.declared.message.Sort.{Sort}
use Rattle.script_names.specs.Names.{item_of}
use Rattle.script_names.specs.Scope.{Variable, sort_slot}
use Rattle.script_names.proofs.RowLemmas.{has_item, is_bound, none_of, not_bound}
use Rattle.script_names.proofs.variables.Variables.bind.Goals as goal

abbrev seen : Bor (List ℕ) × Sort → Variable
seen entry = (entry.0.now, sort_slot entry.1)

pub returns-then-contains_key-clause-is_new : goal.returns-then-contains_key-clause-is_new
returns-then-contains_key-clause-is_new c =
    let there = has_item sort_slot c.args.name.now c.self.inside.sorts.entries ∙ ap (λ (rows : List Variable). is_some (item_of c.args.name.now rows)) c.self.view_is in
    ap not (sym (sym there ∙ sym c.contains_key.ensures ∙ c.if-contains_key.true))

pub returns-then-contains_key-clause-bound : goal.returns-then-contains_key-clause-bound
returns-then-contains_key-clause-bound c =
    let there = has_item sort_slot c.args.name.now c.self.inside.sorts.entries ∙ ap (λ (rows : List Variable). is_some (item_of c.args.name.now rows)) c.self.view_is in
    not_bound c.args.self.now (c.args.name.now, sort_slot c.args.sort) (sym there ∙ sym c.contains_key.ensures ∙ c.if-contains_key.true)

pub returns-clause-is_new : goal.returns-clause-is_new
returns-clause-is_new c =
    let there = has_item sort_slot c.args.name.now c.self.inside.sorts.entries ∙ ap (λ (rows : List Variable). is_some (item_of c.args.name.now rows)) c.self.view_is in
    ap not (sym (sym there ∙ sym c.contains_key.ensures ∙ c.if-contains_key.false))

pub returns-clause-bound : goal.returns-clause-bound
returns-clause-bound c =
    let entries = c.self.inside.sorts.entries in
    let there = has_item sort_slot c.args.name.now entries ∙ ap (λ (rows : List Variable). is_some (item_of c.args.name.now rows)) c.self.view_is in
    let absent = sym c.contains_key.ensures ∙ c.if-contains_key.false in
    ap (map seen) (c.in_ok-insert.ensures.entries ∙ insert_entry-new _ c.self.inside.sorts c.args.name c.args.sort (none_of _ absent))
    ∙ map_push seen entries (c.args.name, c.args.sort)
    ∙ ap (λ (rows : List Variable). rows ++ (c.args.name.now, sort_slot c.args.sort) ∷ []) c.self.view_is
    ∙ is_bound c.args.self.now (c.args.name.now, sort_slot c.args.sort) (sym there ∙ absent)
