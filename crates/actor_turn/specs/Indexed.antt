-- The index of an actor's messages.
use Rattle.std.specs.Prelude.{◌≡◌, ℕ, List, false}
use Rattle.join_base.specs.Taken.{contains_number}
use Rattle.join_base.specs.declared.message.Message.{Message}
use Rattle.mailbox_core.specs.Mail.{Mail, recorded_messages}
use Rattle.pattern_core.specs.Members.{IsIn}
use Rattle.pattern_core.specs.Suits.{IsRecorded}
use Rattle.value_index.specs.Entries.{Entry}
use Rattle.value_index.specs.Index.{Index, Has, Lacks}

-- each number that is not consumed is in the index, with the values of its message
abbrev pub HasLive : Index → Mail → Type 0
HasLive index mail = (number : ℕ) → IsIn number mail.live → Has index (recorded_messages mail.arrivals) number

-- no other recorded number is
abbrev pub LacksConsumed : Index → Mail → Type 0
LacksConsumed index mail = (number : ℕ) → IsRecorded (recorded_messages mail.arrivals) number → ¬ IsIn number mail.live → Lacks index (recorded_messages mail.arrivals) number

-- the index has the numbers that are not consumed, with the values of their messages, and no other recorded one
pub record IsIndexOf (index : Index) (mail : Mail) : Type 0 where
  pub live : HasLive index mail
  pub consumed : LacksConsumed index mail

-- each of the numbers that are taken has left
abbrev pub LacksTaken : List ℕ → Index → List Message → Type 0
LacksTaken taken index messages = (number : ℕ) → IsIn number taken → Lacks index messages number

-- the entries of numbers that are not taken are still there
abbrev pub KeepsUntaken : List ℕ → List Entry → List Entry → Type 0
KeepsUntaken taken before now = (e : Entry) → contains_number taken e.number ≡ false → IsIn e before → IsIn e now
