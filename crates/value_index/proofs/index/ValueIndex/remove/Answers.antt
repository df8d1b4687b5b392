use Rattle.std.proofs.Common.{◌≡◌, ◌++◌, List, length, take, drop, sym, subst, arith}
use Rattle.std.proofs.lemmas.List.{take_at}
use Rattle.value_index.specs.declared.column.Column.{Column}
use Rattle.value_index.specs.Columns.{Each, Loses, index_of}
use Rattle.value_index.specs.Index.{Index, Lacks}
use Rattle.value_index.proofs.EntryLemmas.{IsRemoved, lacks_all, removed}
use Rattle.value_index.proofs.index.ValueIndex.remove.Goals as goal

pub returns : goal.returns
returns c =
    let s = c.self.inside in
    let n = c.args.number in
    let after = c.remove_in.new.columns in
    let long : length after ≡ s.columns.len = omega (arith, c.remove_in.auto.columns, c.deref_mut.ensures.len) in
    let is = take_at after (drop (length after) s.columns.items) s.columns.len long in
    let lose = subst (λ (columns : List Column). Each (Loses n) columns after) c.deref_mut.ensures.value c.remove_in.ensures.lose in
    let whole = subst (λ (columns : List Column). IsRemoved n (index_of s.columns.items) (index_of columns)) (sym is) (removed n s.columns.items after lose) in
    let left = subst (λ (x : Index). IsRemoved n x (index_of (take s.columns.len (after ++ drop (length after) s.columns.items)))) c.self.view_is whole in
    record {
      fields = left.fields;
      others = left.others;
      adds_none = left.adds_none;
      lacks = subst (λ (columns : List Column). Lacks (index_of columns) c.args.messages.now n) (sym is) (lacks_all after c.args.messages.now n c.remove_in.ensures.lack);
    }
