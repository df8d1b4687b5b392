use Rattle.std.proofs.Common.{rules, ◌≡◌, ◌∷◌, [], List, ℕ, sym, ap, ◌∙◌, cond, Some, Option, Bor, length, map}
use Rattle.std.specs.Option.{is_some}
use Rattle.std.specs.Str.{bytes_eq}
use Rattle.std.proofs.lemmas.List.{map-append, length-map}
use Rattle.script_names.specs.Names.{number_of}
use Rattle.script_names.proofs.NameLemmas.{number_kept, number_added}
use Rattle.script_names.proofs.table.NameTable.push.Goals as goal

abbrev name_of : {T : Type 0} → Bor (List ℕ) × T → List ℕ
name_of row = row.0.now

pub invariant_of-self-then-contains_key : goal.invariant_of-self-then-contains_key
invariant_of-self-then-contains_key g c = λ name.
    let rows = c.self.inside.rows.items in
    let there = sym (ap is_some (c.self.invariant c.args.name.now)) ∙ sym c.contains_key.ensures ∙ c.if-contains_key.true in
    c.self.invariant name ∙ number_kept (map name_of rows) c.args.name.now there name ∙ ap (number_of name) (sym (map-append name_of rows ((c.args.name, c.args.item) ∷ [])) ∙ ap (map name_of) (sym c.in_ok-push.ensures.items))

pub invariant_of-self-in-Ok : goal.invariant_of-self-in-Ok
invariant_of-self-in-Ok g c = λ name.
    let rows = c.self.inside.rows.items in
    let fresh = sym (ap is_some (c.self.invariant c.args.name.now)) ∙ sym c.contains_key.ensures ∙ c.if-contains_key.false in
    let count : length rows ≡ c.len-count.result = search rules in
    c.in-Ok.ensures.updates.0 (record c.args.name { now = name }) ∙ ap (λ (o : Option ℕ). cond (bytes_eq c.args.name.now name) (Some c.len-count.result) o) (c.self.invariant name)
    ∙ number_added (map name_of rows) c.args.name.now c.len-count.result (length-map rows name_of ∙ count) fresh name
    ∙ ap (number_of name) (sym (map-append name_of rows ((c.args.name, c.args.item) ∷ [])) ∙ ap (map name_of) (sym c.in_ok-push.ensures.items))
