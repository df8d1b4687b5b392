use Rattle.std.proofs.Common.{◌≡◌, ℕ, ◌<◌, length, sym, ap, ◌∙◌, subst, Some, Option}
use Rattle.std.specs.Prelude.{IfSome}
use Rattle.std.specs.Option.{option_copied}
use Rattle.std.proofs.lemmas.List.{length-map}
use Rattle.script_names.proofs.NameLemmas.{names_of-seen, number_within}
use Rattle.script_names.specs.Names.{names_of, number_of}
use Rattle.script_names.proofs.table.NameTable.number_of.Goals as goal

pub returns-in-Some-clause-first : goal.returns-in-Some-clause-first
returns-in-Some-clause-first g c =
    sym (ap option_copied c.in-Some.is) ∙ c.get.ensures.value ∙ c.self.invariant c.args.name.now ∙ ap (number_of c.args.name.now) (names_of-seen c.self.inside.rows.items)
    ∙ ap (λ rows. number_of c.args.name.now (names_of rows)) c.self.view_is

pub returns-in-None-clause-first : goal.returns-in-None-clause-first
returns-in-None-clause-first g c =
    sym (ap option_copied c.in-None.is) ∙ c.get.ensures.value ∙ c.self.invariant c.args.name.now ∙ ap (number_of c.args.name.now) (names_of-seen c.self.inside.rows.items)
    ∙ ap (λ rows. number_of c.args.name.now (names_of rows)) c.self.view_is

pub returns-in-Some-clause-within : goal.returns-in-Some-clause-within
returns-in-Some-clause-within g c =
    let found : Some c.in-Some.number.now ≡ number_of c.args.name.now (names_of c.args.self.now) = returns-in-Some-clause-first g c in
    let size : length (names_of c.args.self.now) ≡ length c.args.self.now = length-map c.args.self.now (λ row. row.0) in
    subst (λ n. c.in-Some.number.now < n) size (subst (λ (o : Option ℕ). IfSome o (λ n. n < length (names_of c.args.self.now))) (sym found) (number_within c.args.name.now (names_of c.args.self.now)))
