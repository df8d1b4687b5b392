use Rattle.std.proofs.Common.{rules, ◌∷◌, []}
use Rattle.std.proofs.lemmas.List.{map-append}
use Rattle.join_base.specs.declared.message.Value.TheVariants.{Int}
use Rattle.join_base.proofs.fields.Values.push_int.Goals as goal
use Rattle.join_base.proofs.fields.Values.push_int.Goals.{in-Empty, in-One, in-Two, in-Three+in-Ok}

-- each form by itself
pub returns-clause-ok : goal.returns-clause-ok
returns-clause-ok c = elim c.match-self.branch [
  | in-Empty w ↦ search rules
  | in-One w ↦ search rules
  | in-Two w ↦ search (rules, map-append (λ n. Int n) w.in-Two.both (c.args.n ∷ []))
  | in-Three+in-Ok w ↦ search (rules, map-append (λ n. Int n) w.in-Three.all (c.args.n ∷ []))
]
