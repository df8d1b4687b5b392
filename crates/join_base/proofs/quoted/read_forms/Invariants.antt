use Rattle.std.proofs.Common.{◌≡◌, ◌++◌, ◌-◌, ◌≤◌, length, take, drop}
use Rattle.std.specs.List.{flat_map}
use Rattle.join_base.specs.Quoted.{byte_form}
use Rattle.join_base.proofs.quoted.read_forms.Given as goal

abbrev pub invariant-forms : goal.invariant-forms
invariant-forms l = record {
  room : length l.room ≡ length l.fn.room;
  count : l.count ≤ length l.room;
  after : l.at ≤ l.place;
  within : l.place ≤ length l.bytes;
  told : drop l.at l.bytes ≡ flat_map byte_form (take l.count l.room) ++ drop l.place l.bytes;
}

abbrev pub decreases-forms : goal.decreases-forms
decreases-forms l = length l.bytes - l.place
