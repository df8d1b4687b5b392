use Rattle.std.proofs.Common.{◌≡◌, ◌++◌, List, length, take, drop, sym, subst, arith}
use Rattle.std.proofs.lemmas.List.{take_at}
use Rattle.value_index.specs.declared.column.Column.{Column}
use Rattle.value_index.specs.Columns.{Each, Gains, index_of}
use Rattle.value_index.specs.Index.{Has, Index}
use Rattle.value_index.proofs.EntryLemmas.{IsAdded, added, has_all}
use Rattle.value_index.proofs.index.ValueIndex.insert.Goals.{After-insert_in}
use Rattle.value_index.proofs.index.ValueIndex.insert.Goals as goal

-- what the columns were made to, whether there was memory for all or not
left : (c : After-insert_in) → IsAdded c.args.number c.args.self.now (index_of (take c.self.inside.columns.len (c.insert_in.new.columns ++ drop (length c.insert_in.new.columns) c.self.inside.columns.items)))
left c =
    let s = c.self.inside in
    let n = c.args.number in
    let after = c.insert_in.new.columns in
    let long : length after ≡ s.columns.len = omega (arith, c.insert_in.auto.columns, c.deref_mut.ensures.len) in
    let is = take_at after (drop (length after) s.columns.items) s.columns.len long in
    let gain = subst (λ (columns : List Column). Each (Gains n) columns after) c.deref_mut.ensures.value c.insert_in.ensures.gain in
    let whole = subst (λ (columns : List Column). IsAdded n (index_of s.columns.items) (index_of columns)) (sym is) (added n s.columns.items after gain) in
    subst (λ (x : Index). IsAdded n x (index_of (take s.columns.len (after ++ drop (length after) s.columns.items)))) c.self.view_is whole

pub returns-clause-has : goal.returns-clause-has
returns-clause-has c =
    let s = c.self.inside in
    let after = c.insert_in.new.columns in
    let long : length after ≡ s.columns.len = omega (arith, c.insert_in.auto.columns, c.deref_mut.ensures.len) in
    let is = take_at after (drop (length after) s.columns.items) s.columns.len long in
    subst (λ (columns : List Column). Has (index_of columns) c.args.messages.now c.args.number) (sym is) (has_all after c.args.messages.now c.args.number c.in_ok-insert_in.ensures.has)

pub returns-clause-fields : goal.returns-clause-fields
returns-clause-fields c = (left (goal.at.returns-clause-fields c).After-insert_in).fields

pub returns-clause-keeps : goal.returns-clause-keeps
returns-clause-keeps c = (left (goal.at.returns-clause-keeps c).After-insert_in).keeps

pub returns-clause-only : goal.returns-clause-only
returns-clause-only c = (left (goal.at.returns-clause-only c).After-insert_in).only

pub returns-in_err-insert_in-clause-fields : goal.returns-in_err-insert_in-clause-fields
returns-in_err-insert_in-clause-fields c = (left (goal.at.returns-in_err-insert_in-clause-fields c).After-insert_in).fields

pub returns-in_err-insert_in-clause-keeps : goal.returns-in_err-insert_in-clause-keeps
returns-in_err-insert_in-clause-keeps c = (left (goal.at.returns-in_err-insert_in-clause-keeps c).After-insert_in).keeps

pub returns-in_err-insert_in-clause-only : goal.returns-in_err-insert_in-clause-only
returns-in_err-insert_in-clause-only c = (left (goal.at.returns-in_err-insert_in-clause-only c).After-insert_in).only
