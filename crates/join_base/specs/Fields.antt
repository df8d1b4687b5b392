-- The values of a message, and what a push leaves of them.
use Rattle.std.specs.Prelude.{◌≡◌, ◌<◌, List, [], ◌∷◌, ◌++◌, length, map, Result, Ok, Err}
use Rattle.join_base.specs.declared.message.Value.{Value}
use Rattle.join_base.specs.declared.message.Value.TheVariants.{Int, Words}
use Rattle.join_base.specs.declared.fields.Stand.{Stand}
use Rattle.join_base.specs.declared.fields.Stand.TheVariants as stand
use Rattle.join_base.specs.declared.fields.ValueRef.{ValueRef}
use Rattle.join_base.specs.declared.fields.ValueRef.TheVariants as seen
use Rattle.join_base.specs.declared.fields.Values.{Values}
use Rattle.join_base.specs.declared.fields.Values.TheVariants as values
use Rattle.join_base.specs.declared.fields.PushFault.{PushFault}
use Rattle.join_base.specs.declared.fields.PushFault.TheVariants.{Full, NoMemory}

-- the value that is read
abbrev pub value_seen : ValueRef → Value
value_seen (seen.Int n) = Int n
value_seen (seen.Words text) = Words text.now

-- the values that are read
abbrev pub values_seen : Stand → List Value
values_seen (stand.Ints ints) = map (λ n. Int n) ints.now
values_seen (stand.Words text) = Words text.now ∷ []
values_seen (stand.Mixed mixed) = mixed.now

-- the values in place or in their list
abbrev pub values_in : Values → List Value
values_in values.Empty = []
values_in (values.One n) = Int n ∷ []
values_in (values.Two both) = map (λ n. Int n) both
values_in (values.Three all) = map (λ n. Int n) all
values_in (values.Ints ints) = map (λ n. Int n) ints.items
values_in (values.Words text) = Words text ∷ []
values_in (values.Mixed mixed) = mixed.items

-- appended where there was room; handed back, and nothing changed, where 8 are held or there was no memory
abbrev pub IsPushed : List Value → List Value → Value → Result (Unit {0}) PushFault → Type 0
IsPushed before now value (Ok done) = (length before < 8) × (now ≡ before ++ value ∷ [])
IsPushed before now value (Err (Full back)) = (length before ≡ 8) × (now ≡ before) × (back ≡ value)
IsPushed before now value (Err (NoMemory back)) = (length before < 8) × (now ≡ before) × (back ≡ value)
