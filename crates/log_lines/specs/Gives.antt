-- How what a function returned stands to what reading gives.
use Rattle.std.specs.Prelude.{◌≡◌, List, ℕ, Bool, if◌then◌else◌, Option, None, Some, Result, Ok, Err}
use Rattle.std.specs.Borrow.{Bor}
use Rattle.log_lines.specs.declared.fault.LineFault.{LineFault}
use Rattle.log_lines.specs.declared.fault.LineFault.TheVariants.{NoLine, NoMemory}

-- the value behind a part that was read, where there is one
infixl 10 ◌>>=◌
abbrev pub ◌>>=◌ : {A B : Type 0} → Option A → (A → Option B) → Option B
None >>= next = None
(Some a) >>= next = next a

-- the value, where the test passes
abbrev pub where_true : {X : Type 0} → Bool → Option X → Option X
where_true test value = if test then value else None

-- a part and the bytes behind it
abbrev pub GivesFront : {X : Type 0} → Option (X × Bor (List ℕ)) → Option (X × List ℕ) → Type 0
GivesFront None value = value ≡ None
GivesFront (Some p) value = value ≡ Some (p.0, p.1.now)

-- the bytes in front of a mark and those behind it
abbrev pub GivesParts : Option (Bor (List ℕ) × Bor (List ℕ)) → Option (List ℕ × List ℕ) → Type 0
GivesParts None value = value ≡ None
GivesParts (Some p) value = value ≡ Some (p.0.now, p.1.now)

-- the bytes behind some words
abbrev pub GivesRest : Option (Bor (List ℕ)) → Option (List ℕ) → Type 0
GivesRest None value = value ≡ None
GivesRest (Some rest) value = value ≡ Some rest.now

-- `NoLine` comes only where there is no value, and `NoMemory` may come wherever
abbrev pub Fails : {X : Type 0} → LineFault → Option X → Type 0
Fails NoLine value = value ≡ None
Fails NoMemory value = Unit {0}

-- the value exactly where there is one, unless there was no memory
abbrev pub Gives : {X : Type 0} → Result X LineFault → Option X → Type 0
Gives (Ok x) value = value ≡ Some x
Gives (Err fault) value = Fails fault value

-- the same of a value and the bytes behind it
abbrev pub GivesValue : {X : Type 0} → Result (X × Bor (List ℕ)) LineFault → Option (X × List ℕ) → Type 0
GivesValue (Ok p) value = value ≡ Some (p.0, p.1.now)
GivesValue (Err fault) value = Fails fault value
