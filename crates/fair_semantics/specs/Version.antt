-- The number of a log's version.
use Rattle.std.specs.Prelude.{ℕ, ◌≡◌, ◌==◌, if◌then◌else◌, refl}
use Rattle.fair_semantics.specs.declared.run.Form.{Form}
use Rattle.fair_semantics.specs.declared.run.Form.TheVariants.{Plain, Stamped}

abbrev pub version_number : Form → ℕ
version_number Plain = 1
version_number Stamped = 2

abbrev pub version_form : ℕ → Form
version_form number = if number == 1 then Plain else Stamped

pub version_form-number : (form : Form) → version_form (version_number form) ≡ form
version_form-number Plain = refl
version_form-number Stamped = refl
