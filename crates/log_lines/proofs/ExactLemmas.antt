-- What is read is the line that the text is.
use Rattle.std.proofs.Common.{◌≡◌, ◌∙◌, ℕ, ◌==◌, Bool, true, false, List, [], ◌∷◌, ◌++◌, Option, None, Some, refl, sym, ap, subst, ⊎_elim, arith}
use Rattle.std.specs.Prelude.{not, ◌&&◌, if◌then◌else◌, IfSome, IsNone, Result, Ok, Err, IfOk}
use Rattle.std.proofs.lemmas.Bool.{cases_Bool, eqb-true}
use Rattle.std.proofs.lemmas.List.{append_cancel_right}
use Rattle.std.proofs.lemmas.Option.{same_Some}
use Rattle.script_types.specs.declared.plan.Plan.{Plan}
use Rattle.fair_semantics.specs.Fits.{has_reply}
use Rattle.log_lines.specs.declared.fault.LineFault.{LineFault}
use Rattle.log_lines.specs.declared.fault.LineFault.TheVariants.{NoLine, NoMemory}
use Rattle.log_lines.specs.declared.line.Head.{Head}
use Rattle.log_lines.specs.declared.line.LogLine.{LogLine}
use Rattle.log_lines.specs.Gives.{◌>>=◌, Gives}
use Rattle.script_types.specs.Typed.{IsTyped}
use Rattle.log_lines.specs.Lines.{first_line, head_of, line_of}
use Rattle.log_lines.specs.Forms.{HeadFits, IsHead, IsLine, TextsAreOneLine, head_text}
use Rattle.log_lines.proofs.OptionLemmas.{bound, else_is}
use Rattle.log_lines.proofs.NumberLemmas.{eq_true}
use Rattle.log_lines.proofs.HeadLemmas.{HeadNumbers, head_again, head_body, head_takes}
use Rattle.log_lines.proofs.FormLemmas.{Heads, body, body_is, line_again, line_takes}

pub heads_of : (plan : Plan) (head : Head) → HeadFits plan head → Heads head
heads_of plan head fits = let few = fits.feeds.1 in record { version = fits.version; feeds = omega arith }

pub numbers_of_head : (plan : Plan) (head : Head) → HeadFits plan head → HeadNumbers head
numbers_of_head plan head fits = record { version = fits.version; arrivals = fits.arrivals; partials = fits.partials; feeds = fits.feeds }

pub head_is : (head : Head) → head_body head ++ 10 ∷ [] ≡ head_text head
head_is head = refl

-- a text that is a line is its body
pub line_body : (plan : Plan) (head : Head) (text : List ℕ) (l : LogLine) → IsLine plan head text l → text ≡ body plan head l
line_body plan head text l is = append_cancel_right text (body plan head l) (10 ∷ []) (is.is ∙ sym (body_is plan head l))

pub line_found : (plan : Plan) (head : Head) (text : List ℕ) (l : LogLine) → IsTyped plan → HeadFits plan head → IsLine plan head text l → line_of plan head text ≡ Some l
line_found plan head text l typed fits is = ap (line_of plan head) (line_body plan head text l is) ∙ line_again plan typed head (heads_of plan head fits) l is.fits

pub line_is : (plan : Plan) (head : Head) (text : List ℕ) (l : LogLine) → IsTyped plan → HeadFits plan head → line_of plan head text ≡ Some l → IsLine plan head text l
line_is plan head text l typed fits told =
    let taken = line_takes plan typed head (heads_of plan head fits) text l told in
    record { fits = taken.fits; is = ap (λ (t : List ℕ). t ++ 10 ∷ []) taken.is ∙ body_is plan head l }

pub texts_are_one_line : TextsAreOneLine
texts_are_one_line plan head text one other typed fits is also =
    same_Some one other (sym (line_found plan head text one typed fits is) ∙ line_found plan head text other typed fits also)

module _ (plan : Plan) (head : Head) (text : List ℕ) (typed : IsTyped plan) (fits : HeadFits plan head) where
  pub line_ok : (result : Result LogLine LineFault) → Gives result (line_of plan head text) → IfOk result (IsLine plan head text)
  line_ok (Ok l) gives = line_is plan head text l typed fits gives
  line_ok (Err fault) gives = tt

  pub line_none : (result : Result LogLine LineFault) → Gives result (line_of plan head text) → result ≡ Err NoLine → (l : LogLine) → IsLine plan head text l → ⊥
  line_none (Ok l) gives is m line = absurd cc
  line_none (Err NoLine) gives is m line = let found = line_found plan head text m typed fits line in absurd cc
  line_none (Err NoMemory) gives is m line = absurd cc

head_body_of : (plan : Plan) (text : List ℕ) (head : Head) → IsHead plan text head → text ≡ head_body head
head_body_of plan text head is = append_cancel_right text (head_body head) (10 ∷ []) is.is

pub head_found : (plan : Plan) (text : List ℕ) (head : Head) → IsHead plan text head → head_of text ≡ Some head
head_found plan text head is = ap head_of (head_body_of plan text head is) ∙ head_again head (numbers_of_head plan head is.fits)

version_test : (replies second : Bool) → (replies ≡ true → second ≡ true) → (replies && not second) ≡ false
version_test true second h = ap not (h refl)
version_test false second h = refl

test_version : (replies second : Bool) → (replies && not second) ≡ false → replies ≡ true → second ≡ true
test_version true true is h = refl
test_version true false is h = absurd cc
test_version false second is h = absurd cc

pub first_found : (plan : Plan) (text : List ℕ) (head : Head) → IsHead plan text head → first_line plan text ≡ Some head
unfolding first_line
first_found plan text head is =
    ap (λ (o : Option Head). o >>= λ head. if has_reply plan && not (head.version == 2) then None else Some head) (head_found plan text head is)
    ∙ ap (λ (b : Bool). if b then None else Some head) (version_test (has_reply plan) (head.version == 2) (λ replies. eq_true head.version 2 (is.fits.replies replies)))

pub first_is : (plan : Plan) (text : List ℕ) (head : Head) → first_line plan text ≡ Some head → IsHead plan text head
unfolding first_line
first_is plan text head told =
    let read = bound {o = head_of text} told in
    let taken = head_takes text read.first read.is in
    let one = else_is (has_reply plan && not (read.first.version == 2)) None (Some read.first) head read.result in
    ⊎_elim
    (λ (t : (has_reply plan && not (read.first.version == 2)) ≡ true). let none = one.yes t in absurd cc)
    (λ (f : (has_reply plan && not (read.first.version == 2)) ≡ false).
    let same : read.first ≡ head = same_Some _ _ (one.no f) in
    let numbers = taken.numbers in
    subst (IsHead plan text) same (record {
      fits = record {
        version = numbers.version;
        replies = λ replies. eqb-true read.first.version 2 (test_version (has_reply plan) (read.first.version == 2) f replies);
        arrivals = numbers.arrivals;
        partials = numbers.partials;
        feeds = numbers.feeds;
      };
      is = ap (λ (t : List ℕ). t ++ 10 ∷ []) taken.is;
    }))
    (cases_Bool (has_reply plan && not (read.first.version == 2)))

pub head_ok : (plan : Plan) (text : List ℕ) (result : Option Head) → result ≡ first_line plan text → IfSome result (IsHead plan text)
head_ok plan text None is = tt
head_ok plan text (Some head) is = first_is plan text head (sym is)

pub head_none : (plan : Plan) (text : List ℕ) (result : Option Head) → result ≡ first_line plan text → IsNone result → (head : Head) → IsHead plan text head → ⊥
head_none plan text None is none head line = let found = first_found plan text head line in absurd cc
head_none plan text (Some h) is none head line = absurd cc
