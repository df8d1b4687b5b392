-- Each line that is read, against its text.
use Rattle.std.proofs.Common.{◌≡◌, ◌∙◌, ℕ, ◌-◌, ◌^◌, ◌<◌, ◌≤◌, ◌==◌, nat_le, Bool, true, false, List, [], ◌∷◌, ◌++◌, length, get_or, Option, None, Some, refl, sym, ap, subst, ⊎_elim, arith, rules}
use Rattle.std.specs.Prelude.{codes, if◌then◌else◌, not, ◌&&◌}
use Rattle.std.proofs.lemmas.Fmt.{decimal_nonempty}
use Rattle.std.specs.Char.{is_ascii_digit}
use Rattle.std.specs.Fmt.{decimal}
use Rattle.std.specs.Str.{bytes_eq}
use Rattle.std.proofs.lemmas.Bool.{cases_Bool, le-leb, leb-true, eqb-true}
use Rattle.std.proofs.lemmas.Bool.Decides.{nat_tests}
use Rattle.std.proofs.lemmas.Option.{same_Some}
use Rattle.std.proofs.lemmas.Slice.Eq.{bytes_eq-Decides}
use Rattle.join_base.specs.Quoted.{quoted}
use Rattle.join_base.specs.declared.message.Source.{Source}
use Rattle.join_base.specs.declared.message.Message.{Message}
use Rattle.join_base.specs.declared.message.Value.{Value}
use Rattle.script_types.specs.declared.plan.Plan.{Plan}
use Rattle.fair_semantics.specs.declared.run.Effect.TheVariants as effect
use Rattle.fair_semantics.specs.declared.run.Ending.{Ending}
use Rattle.fair_semantics.specs.declared.run.Ending.TheVariants.{Running, Stopped, Jammed, Spent}
use Rattle.fair_semantics.specs.Fits.{IsFrom1To}
use Rattle.arrival_log.specs.LogText.{comma_joined, ending_text, left_text, line, message_text, source_text, value_text}
use Rattle.script_types.specs.Names.{name_of_actor}
use Rattle.log_lines.specs.declared.line.Arrival.{Arrival}
use Rattle.log_lines.specs.declared.line.Head.{Head}
use Rattle.log_lines.specs.declared.line.LogLine.{LogLine}
use Rattle.log_lines.specs.declared.line.LogLine.TheVariants.{Heading, Arrives, Fires, Does, IsLate, Ends}
use Rattle.log_lines.specs.Gives.{◌>>=◌, where_true}
use Rattle.log_lines.specs.Cut.{after, cut, lacks}
use Rattle.log_lines.specs.Numbers.{count_of}
use Rattle.log_lines.specs.Messages.{actor_of, behind_or, message_of, numbers_of, source_at, value_of, words_of}
use Rattle.log_lines.specs.Lines.{arrival_of, end_of, ending_at, ending_of, firing_of, heading_of, late_of, left_of, line_of, number_at, partials_of, post_of, print_of, reply_of, rule_at, sent_at, stamp_at, worded_line}
use Rattle.script_types.specs.Typed.{IsTyped}
use Rattle.log_lines.specs.Forms.{LineFits, line_text}
use Rattle.log_lines.proofs.OptionLemmas.{bind_is, bound, else_is, where_is}
use Rattle.log_lines.proofs.CutLemmas.{Takes, after_again, after_takes, cut_again, cut_takes, lacks_both}
use Rattle.log_lines.proofs.NumberLemmas.{count_again, count_takes, decimal_first, decimal_lacks, eq_true, number_again, number_takes}
use Rattle.log_lines.proofs.HeadLemmas.{TakesAt, number_at_again, number_at_takes}
use Rattle.log_lines.proofs.PlanLemmas.{TakesMessage, TakesSource, actor_again, actor_lacks, actor_takes, message_again, message_takes, source_again, source_takes}
use Rattle.log_lines.proofs.LineLemmas.{TakesNumbers, TakesStamp, AreNumbers, decimals, numbers_again, numbers_takes, stamp_again, stamp_takes, stamped, value_again, value_takes, words_again, words_takes}

-- the text of a line without its LF
abbrev pub body : Plan → Head → LogLine → List ℕ
body plan head (Heading a) = codes "actor " ++ name_of_actor plan a
body plan head (Arrives arrival) =
    decimal arrival.number ++ 32 ∷ stamped (head.version == 1) arrival.stamp (codes "from " ++ (source_text plan arrival.source ++ 32 ∷ message_text plan arrival.message))
body plan head (Fires rule taken) = codes "fire rule " ++ (decimal rule ++ 32 ∷ (codes "take " ++ comma_joined (decimals taken)))
body plan head (Does (effect.Print text)) = codes "print " ++ quoted text
body plan head (Does (effect.Post target message)) = codes "post " ++ (name_of_actor plan target ++ 32 ∷ message_text plan message)
body plan head (Does (effect.Reply number given)) = codes "reply " ++ (decimal number ++ 32 ∷ value_text given)
body plan head (IsLate source count) = codes "late " ++ (source_text plan source ++ 32 ∷ decimal count)
body plan head (Ends ending left partials) = codes "end " ++ (ending_text ending ++ 32 ∷ (codes "left " ++ (left_text left ++ 32 ∷ (codes "partials " ++ decimal partials))))

-- what reading a line needs of the first one
pub record Heads (head : Head) : Type 0 where
  pub version : IsFrom1To 2 head.version
  pub feeds : head.feeds < 2 ^ 32

pub record TakesLine (plan : Plan) (head : Head) (text : List ℕ) (given : LogLine) : Type 0 where
  pub fits : LineFits plan head given
  pub is : text ≡ body plan head given

-- ---- endings and lists

ending_again : (e : Ending) → ending_of (ending_text e) ≡ Some e
unfolding ending_of
ending_again Running = refl
ending_again Stopped = refl
ending_again Jammed = refl
ending_again Spent = refl

ending_lacks : (e : Ending) → lacks 32 (ending_text e) ≡ true
ending_lacks Running = refl
ending_lacks Stopped = refl
ending_lacks Jammed = refl
ending_lacks Spent = refl

word_is : (text word : List ℕ) → bytes_eq text word ≡ true → text ≡ word
word_is text word is = (bytes_eq-Decides text word).0 is

ending_here : (text word : List ℕ) (e f : Ending) → bytes_eq text word ≡ true → word ≡ ending_text e → Path (Option Ending) (Some e) (Some f) → text ≡ ending_text f
ending_here text word e f t named is = word_is text word t ∙ named ∙ ap ending_text (same_Some e f is)

ending_takes : (text : List ℕ) (e : Ending) → ending_of text ≡ Some e → text ≡ ending_text e
unfolding ending_of
ending_takes text e is =
    let a = else_is (bytes_eq text (codes "running")) (Some Running) (if bytes_eq text (codes "stopped") then Some Stopped else if bytes_eq text (codes "jammed") then Some Jammed else if bytes_eq text (codes "spent") then Some Spent else None) e is in
    ⊎_elim (λ (t : bytes_eq text (codes "running") ≡ true). ending_here text (codes "running") Running e t refl (a.yes t))
    (λ (f : bytes_eq text (codes "running") ≡ false).
    let b = else_is (bytes_eq text (codes "stopped")) (Some Stopped) (if bytes_eq text (codes "jammed") then Some Jammed else if bytes_eq text (codes "spent") then Some Spent else None) e (a.no f) in
    ⊎_elim (λ (t : bytes_eq text (codes "stopped") ≡ true). ending_here text (codes "stopped") Stopped e t refl (b.yes t))
    (λ (f : bytes_eq text (codes "stopped") ≡ false).
    let c = else_is (bytes_eq text (codes "jammed")) (Some Jammed) (if bytes_eq text (codes "spent") then Some Spent else None) e (b.no f) in
    ⊎_elim (λ (t : bytes_eq text (codes "jammed") ≡ true). ending_here text (codes "jammed") Jammed e t refl (c.yes t))
    (λ (f : bytes_eq text (codes "jammed") ≡ false).
    let d = else_is (bytes_eq text (codes "spent")) (Some Spent) None e (c.no f) in
    ⊎_elim (λ (t : bytes_eq text (codes "spent") ≡ true). ending_here text (codes "spent") Spent e t refl (d.yes t))
    (λ (f : bytes_eq text (codes "spent") ≡ false). let none = d.no f in absurd cc)
    (cases_Bool (bytes_eq text (codes "spent"))))
    (cases_Bool (bytes_eq text (codes "jammed"))))
    (cases_Bool (bytes_eq text (codes "stopped"))))
    (cases_Bool (bytes_eq text (codes "running")))

-- no list of numbers is `-`
digit_no_dash : (b : ℕ) → is_ascii_digit b ≡ true → (b ≡ 45 → ⊥)
digit_no_dash b is e = absurd (grind (arith, nat_tests))

first_of_front : (xs ys : List ℕ) → 0 < length xs → get_or (xs ++ ys) 0 0 ≡ get_or xs 0 0
first_of_front [] ys some = absurd (omega arith)
first_of_front (x ∷ xs) ys some = refl

first_number : (n : ℕ) (ns : List ℕ) → n < 2 ^ 64 → is_ascii_digit (get_or (comma_joined (decimals (n ∷ ns))) 0 0) ≡ true
first_number n [] small = decimal_first n small
first_number n (m ∷ ms) small = ap is_ascii_digit (first_of_front (decimal n) (44 ∷ comma_joined (decimals (m ∷ ms))) (decimal_nonempty n small)) ∙ decimal_first n small

no_dash : (text : List ℕ) → is_ascii_digit (get_or text 0 0) ≡ true → bytes_eq text (codes "-") ≡ false
no_dash text is =
    ⊎_elim
    (λ (t : bytes_eq text (codes "-") ≡ true). absurd (digit_no_dash (get_or text 0 0) is (ap (λ (l : List ℕ). get_or l 0 0) (word_is text (codes "-") t))))
    (λ (f : bytes_eq text (codes "-") ≡ false). f)
    (cases_Bool (bytes_eq text (codes "-")))

left_again : (left : List ℕ) → AreNumbers left → left_of (left_text left) ≡ Some left
unfolding left_of
left_again [] fits = refl
left_again (n ∷ ns) fits =
    let small = fits.0 in
    let text : List ℕ = comma_joined (decimals (n ∷ ns)) in
    ap (λ (b : Bool). if b then Some [] else numbers_of text) (no_dash text (first_number n ns (omega arith))) ∙ numbers_again n ns fits

pub record TakesLeft (text left : List ℕ) : Type 0 where
  pub fits : AreNumbers left
  pub is : text ≡ left_text left

some_left : (text left : List ℕ) → 1 ≤ length left → AreNumbers left → text ≡ comma_joined (decimals left) → TakesLeft text left
some_left text [] some fits is = absurd (omega arith)
some_left text (n ∷ ns) some fits is = record { fits = fits; is = is }

left_takes : (text left : List ℕ) → left_of text ≡ Some left → TakesLeft text left
unfolding left_of
left_takes text left is =
    let one = else_is (bytes_eq text (codes "-")) (Some []) (numbers_of text) left is in
    ⊎_elim
    (λ (t : bytes_eq text (codes "-") ≡ true).
    let same : [] ≡ left = same_Some _ _ (one.yes t) in
    subst (TakesLeft text) same (record { fits = tt; is = word_is text (codes "-") t }))
    (λ (f : bytes_eq text (codes "-") ≡ false). let numbers = numbers_takes text left (one.no f) in some_left text left numbers.some numbers.fits numbers.is)
    (cases_Bool (bytes_eq text (codes "-")))

pub numbers_lack : (byte : ℕ) (ns : List ℕ) → is_ascii_digit byte ≡ false → (44 == byte) ≡ false → AreNumbers ns → lacks byte (comma_joined (decimals ns)) ≡ true
numbers_lack byte [] digit comma fits = refl
numbers_lack byte (n ∷ []) digit comma fits = let small = fits.0 in decimal_lacks byte n digit (omega arith)
numbers_lack byte (n ∷ m ∷ ms) digit comma fits =
    let small = fits.0 in
    lacks_both byte (decimal n) (44 ∷ comma_joined (decimals (m ∷ ms))) (decimal_lacks byte n digit (omega arith))
    (ap (λ (b : Bool). not b && lacks byte (comma_joined (decimals (m ∷ ms)))) comma ∙ numbers_lack byte (m ∷ ms) digit comma fits.1)

pub left_lacks : (byte : ℕ) (left : List ℕ) → is_ascii_digit byte ≡ false → (44 == byte) ≡ false → (45 == byte) ≡ false → AreNumbers left → lacks byte (left_text left) ≡ true
left_lacks byte [] digit comma dash fits = ap (λ (b : Bool). not b && true) dash
left_lacks byte (n ∷ ns) digit comma dash fits = numbers_lack byte (n ∷ ns) digit comma fits

-- ---- each form, behind its first word

module _ (plan : Plan) (typed : IsTyped plan) (head : Head) (heads : Heads head) where
  heading_again : (a : ℕ) → LineFits plan head (Heading a) → heading_of plan (name_of_actor plan a) ≡ Some (Heading a)
  unfolding heading_of
  heading_again a fits = bind_is _ a (actor_again plan typed a fits) refl

  heading_takes : (text : List ℕ) (l : LogLine) → heading_of plan text ≡ Some l → TakesLine plan head (codes "actor " ++ text) l
  unfolding heading_of
  heading_takes text l is =
      let found = bound {o = actor_of plan text} is in
      let actor = actor_takes plan typed text found.first found.is in
      let same : Heading found.first ≡ l = same_Some _ _ found.result in
      subst (TakesLine plan head (codes "actor " ++ text)) same (record { fits = actor.within; is = ap (λ (t : List ℕ). codes "actor " ++ t) actor.is })

  sent_again : (arrival : Arrival) (rest : List ℕ) → LineFits plan head (Arrives arrival)
      → sent_at plan head (decimal arrival.number ++ 32 ∷ stamped (head.version == 1) arrival.stamp (codes "from " ++ (source_text plan arrival.source ++ 32 ∷ rest))) ≡ Some ((arrival.number, arrival.stamp, arrival.source), rest)
  unfolding sent_at
  sent_again arrival rest fits =
      let small = fits.number in
      let from : List ℕ = codes "from " ++ (source_text plan arrival.source ++ 32 ∷ rest) in
      bind_is _ (arrival.number, stamped (head.version == 1) arrival.stamp from) (number_at_again (2 ^ 32 - 1) arrival.number (stamped (head.version == 1) arrival.stamp from) (omega arith) (omega arith))
      (bind_is _ (arrival.stamp, from) (stamp_again head.version arrival.stamp from (head.version == 1) refl heads.version fits.stamp)
      (bind_is _ (source_text plan arrival.source ++ 32 ∷ rest) (after_again (codes "from ") (source_text plan arrival.source ++ 32 ∷ rest))
      (bind_is _ (arrival.source, rest) (source_again plan typed head.feeds arrival.source rest heads.feeds fits.source) refl)))

  arrival_again : (arrival : Arrival) → LineFits plan head (Arrives arrival) → arrival_of plan head (body plan head (Arrives arrival)) ≡ Some (Arrives arrival)
  unfolding arrival_of
  arrival_again arrival fits =
      bind_is _ ((arrival.number, arrival.stamp, arrival.source), message_text plan arrival.message) (sent_again arrival (message_text plan arrival.message) fits)
      (bind_is _ arrival.message (message_again plan typed arrival.message fits.message) refl)

  firing_again : (rule : ℕ) (taken : List ℕ) → LineFits plan head (Fires rule taken) → firing_of (decimal rule ++ 32 ∷ (codes "take " ++ comma_joined (decimals taken))) ≡ Some (Fires rule taken)
  unfolding firing_of rule_at
  firing_again rule [] fits = absurd (omega (arith, fits.some))
  firing_again rule (n ∷ ns) fits =
      let small = fits.rule in
      let few = fits.few in
      bind_is _ (rule, comma_joined (decimals (n ∷ ns)))
      (bind_is _ (rule, codes "take " ++ comma_joined (decimals (n ∷ ns))) (number_at_again (2 ^ 32 - 1) rule (codes "take " ++ comma_joined (decimals (n ∷ ns))) (omega arith) (omega arith))
      (bind_is _ (comma_joined (decimals (n ∷ ns))) (after_again (codes "take ") (comma_joined (decimals (n ∷ ns)))) refl))
      (bind_is _ (n ∷ ns) (numbers_again n ns fits.numbers)
      (ap (λ (b : Bool). where_true b (Some (Fires rule (n ∷ ns)))) (le-leb (length (n ∷ ns)) 8 few)))

  print_again : (text : List ℕ) → LineFits plan head (Does (effect.Print text)) → print_of (quoted text) ≡ Some (Does (effect.Print text))
  unfolding print_of
  print_again text fits = bind_is _ text (words_again 1920 text fits) refl

  post_again : (target : ℕ) (message : Message) → LineFits plan head (Does (effect.Post target message)) → post_of plan (name_of_actor plan target ++ 32 ∷ message_text plan message) ≡ Some (Does (effect.Post target message))
  unfolding post_of
  post_again target message fits =
      bind_is _ (name_of_actor plan target, message_text plan message) (cut_again 32 (name_of_actor plan target) (message_text plan message) (actor_lacks plan typed 32 target refl fits.0))
      (bind_is _ target (actor_again plan typed target fits.0)
      (bind_is _ message (message_again plan typed message fits.1) refl))

  reply_again : (number : ℕ) (given : Value) → LineFits plan head (Does (effect.Reply number given)) → reply_of head (decimal number ++ 32 ∷ value_text given) ≡ Some (Does (effect.Reply number given))
  unfolding reply_of
  reply_again number given fits =
      let small = fits.1 in
      let text : List ℕ = decimal number ++ 32 ∷ value_text given in
      ap (λ (b : Bool). if b then (number_at (2 ^ 32 - 1) text >>= λ number. value_of (number.1) >>= λ given. Some (Does (effect.Reply (number.0) given))) else None) (eq_true head.version 2 (fits.0))
      ∙ bind_is _ (number, value_text given) (number_at_again (2 ^ 32 - 1) number (value_text given) (omega arith) (omega arith))
      (bind_is _ given (value_again given (fits.2)) refl)

  late_again : (source : Source) (count : ℕ) → LineFits plan head (IsLate source count) → late_of plan head (source_text plan source ++ 32 ∷ decimal count) ≡ Some (IsLate source count)
  unfolding late_of
  late_again source count fits =
      let above = fits.above_zero in
      let small = fits.small in
      bind_is _ (source, decimal count) (source_again plan typed head.feeds source (decimal count) heads.feeds fits.source)
      (bind_is _ count (count_again (2 ^ 64 - 1) count (omega arith) (omega arith) (omega arith)) refl)

  end_again : (ending : Ending) (left : List ℕ) (partials : ℕ) → LineFits plan head (Ends ending left partials)
      → end_of (ending_text ending ++ 32 ∷ (codes "left " ++ (left_text left ++ 32 ∷ (codes "partials " ++ decimal partials)))) ≡ Some (Ends ending left partials)
  unfolding end_of ending_at partials_of
  end_again ending left partials fits =
      let small = fits.partials in
      let kept : List ℕ = codes "partials " ++ decimal partials in
      let leaving : List ℕ = left_text left ++ 32 ∷ kept in
      bind_is _ (ending, leaving)
      (bind_is _ (ending_text ending, codes "left " ++ leaving) (cut_again 32 (ending_text ending) (codes "left " ++ leaving) (ending_lacks ending))
      (bind_is _ ending (ending_again ending) (bind_is _ leaving (after_again (codes "left ") leaving) refl)))
      (bind_is _ (left_text left, kept) (cut_again 32 (left_text left) kept (left_lacks 32 left refl refl refl fits.left))
      (bind_is _ partials (bind_is _ (decimal partials) (after_again (codes "partials ") (decimal partials)) (number_again (2 ^ 64 - 1) partials (omega arith) (omega arith)))
      (bind_is _ left (left_again left fits.left) refl)))

  -- an arrival of parts that were read
  arrival_made : (text : List ℕ) (l : LogLine) (number stamp : ℕ × List ℕ) (source : Source × List ℕ) (sent : (ℕ × ℕ × Source) × List ℕ) (message : Message) (from : List ℕ)
      → TakesAt 0 (2 ^ 32 - 1) text number → TakesStamp head.version (number.1) stamp → stamp.1 ≡ codes "from " ++ from → TakesSource plan typed head.feeds from source
      → ((number.0, stamp.0, source.0), source.1) ≡ sent → TakesMessage plan typed (sent.1) message
      → Path (Option LogLine) (Some (Arrives (record { number = sent.0.0; stamp = sent.0.1; source = sent.0.2; message = message }))) (Some l) → TakesLine plan head text l
  arrival_made text l number stamp source sent message from n s behind o parts m is =
      let same : Arrives (record { number = sent.0.0; stamp = sent.0.1; source = sent.0.2; message = message }) ≡ l = same_Some _ _ is in
      let P : (ℕ × ℕ × Source) × List ℕ → Type 0 = λ q. TakesMessage plan typed (q.1) message → TakesLine plan head text (Arrives (record { number = q.0.0; stamp = q.0.1; source = q.0.2; message = message })) in
      let small = n.below in
      let made : P sent = subst P parts (λ m. record {
        fits = record { number = omega arith; source = o.fits; message = m.fits; stamp = s.fits; firing = tt };
        is = n.split
            ∙ ap (λ (t : List ℕ). decimal (number.0) ++ 32 ∷ t) (s.split
            ∙ ap (stamped (head.version == 1) (stamp.0)) (behind
            ∙ ap (λ (t : List ℕ). codes "from " ++ t) (o.split
            ∙ ap (λ (t : List ℕ). source_text plan (source.0) ++ 32 ∷ t) m.is)));
      }) in
      subst (TakesLine plan head text) same (made m)

  arrival_takes : (text : List ℕ) (l : LogLine) → arrival_of plan head text ≡ Some l → TakesLine plan head text l
  unfolding arrival_of sent_at
  arrival_takes text l is =
      let sent = bound {o = sent_at plan head text} is in
      let message = bound {o = message_of plan (sent.first.1)} sent.result in
      let number = bound {o = number_at (2 ^ 32 - 1) text} sent.is in
      let stamp = bound {o = stamp_at head.version (number.first.1)} number.result in
      let from = bound {o = after (codes "from ") (stamp.first.1)} stamp.result in
      let source = bound {o = source_at plan head.feeds from.first} from.result in
      let n = number_at_takes (2 ^ 32 - 1) text number.first (omega arith) number.is in
      let s = stamp_takes head.version (number.first.1) stamp.first stamp.is in
      let o = source_takes plan typed head.feeds from.first source.first heads.feeds source.is in
      let m = message_takes plan typed (sent.first.1) message.first message.is in
      let parts : ((number.first.0, stamp.first.0, source.first.0), source.first.1) ≡ sent.first = same_Some _ _ source.result in
      arrival_made text l number.first stamp.first source.first sent.first message.first from.first n s (after_takes (codes "from ") (stamp.first.1) from.first from.is) o parts m message.result

  firing_takes : (text : List ℕ) (l : LogLine) → firing_of text ≡ Some l → TakesLine plan head (codes "fire rule " ++ text) l
  unfolding firing_of rule_at
  firing_takes text l is =
      let rule = bound {o = number_at (2 ^ 32 - 1) text >>= λ rule. after (codes "take ") (rule.1) >>= λ taking. Some (rule.0, taking)} is in
      let taken = bound {o = numbers_of (rule.first.1)} rule.result in
      let few = where_is (nat_le (length taken.first) 8) (Some (Fires (rule.first.0) taken.first)) l taken.result in
      let number = bound {o = number_at (2 ^ 32 - 1) text} rule.is in
      let behind = bound {o = after (codes "take ") (number.first.1)} number.result in
      let n = number_at_takes (2 ^ 32 - 1) text number.first (omega arith) number.is in
      let ns = numbers_takes (rule.first.1) taken.first taken.is in
      let parts : (number.first.0, behind.first) ≡ rule.first = same_Some _ _ behind.result in
      let same : Fires (rule.first.0) taken.first ≡ l = same_Some _ _ few.is in
      let small = n.below in
      let P : ℕ × List ℕ → Type 0 = λ q. TakesNumbers (q.1) taken.first → TakesLine plan head (codes "fire rule " ++ text) (Fires (q.0) taken.first) in
      let made : P rule.first = subst P parts (λ ns. record {
        fits = record { rule = omega arith; some = ns.some; few = leb-true (length taken.first) 8 few.test; numbers = ns.fits; effects = tt };
        is = ap (λ (t : List ℕ). codes "fire rule " ++ t) (n.split
            ∙ ap (λ (t : List ℕ). decimal (number.first.0) ++ 32 ∷ t) (after_takes (codes "take ") (number.first.1) behind.first behind.is
            ∙ ap (λ (t : List ℕ). codes "take " ++ t) ns.is));
      }) in
      subst (TakesLine plan head (codes "fire rule " ++ text)) same (made ns)

  print_takes : (text : List ℕ) (l : LogLine) → print_of text ≡ Some l → TakesLine plan head (codes "print " ++ text) l
  unfolding print_of
  print_takes text l is =
      let read = bound {o = words_of 1920 text} is in
      let words = words_takes 1920 text read.first read.is in
      let same : Does (effect.Print read.first) ≡ l = same_Some _ _ read.result in
      subst (TakesLine plan head (codes "print " ++ text)) same (record { fits = words.fits; is = ap (λ (t : List ℕ). codes "print " ++ t) words.is })

  post_takes : (text : List ℕ) (l : LogLine) → post_of plan text ≡ Some l → TakesLine plan head (codes "post " ++ text) l
  unfolding post_of
  post_takes text l is =
      let parts = bound {o = cut 32 text} is in
      let target = bound {o = actor_of plan (parts.first.0)} parts.result in
      let message = bound {o = message_of plan (parts.first.1)} target.result in
      let taken = cut_takes 32 text parts.first parts.is in
      let actor = actor_takes plan typed (parts.first.0) target.first target.is in
      let m = message_takes plan typed (parts.first.1) message.first message.is in
      let same : Does (effect.Post target.first message.first) ≡ l = same_Some _ _ message.result in
      subst (TakesLine plan head (codes "post " ++ text)) same (record {
        fits = (actor.within, m.fits);
        is = ap (λ (t : List ℕ). codes "post " ++ t) (taken.split ∙ ap (λ (t : List ℕ). t ++ 32 ∷ parts.first.1) actor.is ∙ ap (λ (t : List ℕ). name_of_actor plan target.first ++ 32 ∷ t) m.is);
      })

  reply_takes : (text : List ℕ) (l : LogLine) → reply_of head text ≡ Some l → TakesLine plan head (codes "reply " ++ text) l
  unfolding reply_of
  reply_takes text l is =
      let one = else_is (head.version == 2) (number_at (2 ^ 32 - 1) text >>= λ number. value_of (number.1) >>= λ given. Some (Does (effect.Reply (number.0) given))) None l is in
      ⊎_elim
      (λ (t : (head.version == 2) ≡ true).
      let number = bound {o = number_at (2 ^ 32 - 1) text} (one.yes t) in
      let given = bound {o = value_of (number.first.1)} number.result in
      let n = number_at_takes (2 ^ 32 - 1) text number.first (omega arith) number.is in
      let v = value_takes (number.first.1) given.first given.is in
      let same : Does (effect.Reply (number.first.0) given.first) ≡ l = same_Some _ _ given.result in
      let small = n.below in
      subst (TakesLine plan head (codes "reply " ++ text)) same (record {
        fits = (eqb-true head.version 2 t, omega arith, v.fits);
        is = ap (λ (t : List ℕ). codes "reply " ++ t) (n.split ∙ ap (λ (t : List ℕ). decimal (number.first.0) ++ 32 ∷ t) v.is);
      }))
      (λ (f : (head.version == 2) ≡ false). let none = one.no f in absurd cc)
      (cases_Bool (head.version == 2))

  late_takes : (text : List ℕ) (l : LogLine) → late_of plan head text ≡ Some l → TakesLine plan head (codes "late " ++ text) l
  unfolding late_of
  late_takes text l is =
      let source = bound {o = source_at plan head.feeds text} is in
      let count = bound {o = count_of (2 ^ 64 - 1) (source.first.1)} source.result in
      let o = source_takes plan typed head.feeds text source.first heads.feeds source.is in
      let n = count_takes (2 ^ 64 - 1) (source.first.1) count.first (omega arith) count.is in
      let same : IsLate (source.first.0) count.first ≡ l = same_Some _ _ count.result in
      let above = n.above in
      let small = n.below in
      subst (TakesLine plan head (codes "late " ++ text)) same (record {
        fits = record { source = o.fits; above_zero = omega arith; small = omega arith };
        is = ap (λ (t : List ℕ). codes "late " ++ t) (o.split ∙ ap (λ (t : List ℕ). source_text plan (source.first.0) ++ 32 ∷ t) n.is);
      })

  end_takes : (text : List ℕ) (l : LogLine) → end_of text ≡ Some l → TakesLine plan head (codes "end " ++ text) l
  unfolding end_of ending_at partials_of
  end_takes text l is =
      let ending = bound {o = ending_at text} is in
      let listed = bound {o = cut 32 (ending.first.1)} ending.result in
      let partials = bound {o = partials_of (listed.first.1)} listed.result in
      let left = bound {o = left_of (listed.first.0)} partials.result in
      let how = bound {o = cut 32 text} ending.is in
      let named = bound {o = ending_of (how.first.0)} how.result in
      let leaving = bound {o = after (codes "left ") (how.first.1)} named.result in
      let kept = bound {o = after (codes "partials ") (listed.first.1)} partials.is in
      let split = cut_takes 32 text how.first how.is in
      let list_split = cut_takes 32 (ending.first.1) listed.first listed.is in
      let n = number_takes (2 ^ 64 - 1) kept.first partials.first (omega arith) kept.result in
      let ns = left_takes (listed.first.0) left.first left.is in
      let parts : (named.first, leaving.first) ≡ ending.first = same_Some _ _ leaving.result in
      let same : Ends (ending.first.0) left.first partials.first ≡ l = same_Some _ _ left.result in
      let small = n.below in
      let P : Ending × List ℕ → Type 0 = λ q. Takes 32 (q.1) listed.first → TakesLine plan head (codes "end " ++ text) (Ends (q.0) left.first partials.first) in
      let made : P ending.first = subst P parts (λ list_split. record {
        fits = record { entries = tt; late = tt; in_order = search rules; left = ns.fits; partials = omega arith };
        is = ap (λ (t : List ℕ). codes "end " ++ t) (split.split
            ∙ ap (λ (t : List ℕ). t ++ 32 ∷ how.first.1) (ending_takes (how.first.0) named.first named.is)
            ∙ ap (λ (t : List ℕ). ending_text named.first ++ 32 ∷ t) (after_takes (codes "left ") (how.first.1) leaving.first leaving.is
            ∙ ap (λ (t : List ℕ). codes "left " ++ t) (list_split.split
            ∙ ap (λ (t : List ℕ). t ++ 32 ∷ listed.first.1) ns.is
            ∙ ap (λ (t : List ℕ). left_text left.first ++ 32 ∷ t) (after_takes (codes "partials ") (listed.first.1) kept.first kept.is
            ∙ ap (λ (t : List ℕ). codes "partials " ++ t) n.is))));
      }) in
      subst (TakesLine plan head (codes "end " ++ text)) same (made list_split)

  -- ---- a line by its first word

  abbrev pub worded : List ℕ → Option LogLine
  worded text = worded_line plan head text

  digit_line : (text : List ℕ) → is_ascii_digit (get_or text 0 0) ≡ true → line_of plan head text ≡ arrival_of plan head text
  unfolding line_of
  digit_line text is = ap (λ (b : Bool). if b then arrival_of plan head text else worded text) is

  number_first : (n : ℕ) (rest : List ℕ) → n < 2 ^ 64 → is_ascii_digit (get_or (decimal n ++ rest) 0 0) ≡ true
  number_first n rest small = ap is_ascii_digit (first_of_front (decimal n) rest (decimal_nonempty n small)) ∙ decimal_first n small

  -- a line of this text is read back
  pub line_again : (l : LogLine) → LineFits plan head l → line_of plan head (body plan head l) ≡ Some l
  unfolding line_of worded_line after
  line_again (Heading a) fits = heading_again a fits
  line_again (Arrives arrival) fits =
      let small = fits.number in
      digit_line (body plan head (Arrives arrival)) (number_first arrival.number _ (omega arith)) ∙ arrival_again arrival fits
  line_again (Fires rule taken) fits = firing_again rule taken fits
  line_again (Does (effect.Print text)) fits = print_again text fits
  line_again (Does (effect.Post target message)) fits = post_again target message fits
  line_again (Does (effect.Reply number given)) fits = reply_again number given fits
  line_again (IsLate source count) fits = late_again source count fits
  line_again (Ends ending left partials) fits = end_again ending left partials fits

  -- what stands behind some words, or what is read without them
  behind_by : (words text : List ℕ) (read : List ℕ → Option LogLine) (other : Option LogLine) (l : LogLine) (found : Option (List ℕ)) → after words text ≡ found → behind_or found read other ≡ Some l
      → ((rest : List ℕ) → read rest ≡ Some l → TakesLine plan head (words ++ rest) l) → (other ≡ Some l → TakesLine plan head text l) → TakesLine plan head text l
  behind_by words text read other l None told is here others = others is
  behind_by words text read other l (Some rest) told is here others = subst (λ (t : List ℕ). TakesLine plan head t l) (sym (after_takes words text rest told)) (here rest is)

  worded_takes : (text : List ℕ) (l : LogLine) → worded_line plan head text ≡ Some l → TakesLine plan head text l
  unfolding worded_line
  worded_takes text l is =
      behind_by (codes "actor ") text (heading_of plan) _ l (after (codes "actor ") text) refl is (λ rest. heading_takes rest l)
      (λ is. behind_by (codes "fire rule ") text firing_of _ l (after (codes "fire rule ") text) refl is (λ rest. firing_takes rest l)
      (λ is. behind_by (codes "print ") text print_of _ l (after (codes "print ") text) refl is (λ rest. print_takes rest l)
      (λ is. behind_by (codes "post ") text (post_of plan) _ l (after (codes "post ") text) refl is (λ rest. post_takes rest l)
      (λ is. behind_by (codes "reply ") text (reply_of head) _ l (after (codes "reply ") text) refl is (λ rest. reply_takes rest l)
      (λ is. behind_by (codes "late ") text (late_of plan head) _ l (after (codes "late ") text) refl is (λ rest. late_takes rest l)
      (λ is. behind_by (codes "end ") text end_of None l (after (codes "end ") text) refl is (λ rest. end_takes rest l)
      (λ is. absurd cc)))))))

  pub line_takes : (text : List ℕ) (l : LogLine) → line_of plan head text ≡ Some l → TakesLine plan head text l
  unfolding line_of
  line_takes text l is =
      let one = else_is (is_ascii_digit (get_or text 0 0)) (arrival_of plan head text) (worded_line plan head text) l is in
      ⊎_elim
      (λ (t : is_ascii_digit (get_or text 0 0) ≡ true). arrival_takes text l (one.yes t))
      (λ (f : is_ascii_digit (get_or text 0 0) ≡ false). worded_takes text l (one.no f))
      (cases_Bool (is_ascii_digit (get_or text 0 0)))

arrival_body : (b : Bool) (number stamp : ℕ) (from to : List ℕ)
    → (decimal number ++ 32 ∷ stamped b stamp (codes "from " ++ (from ++ 32 ∷ to))) ++ 10 ∷ []
    ≡ line ((decimal number ∷ (if b then [] else codes "at" ∷ decimal stamp ∷ [])) ++ (codes "from" ∷ from ∷ to ∷ []))
arrival_body true number stamp from to = refl
arrival_body false number stamp from to = refl

-- the text of a line is its body and LF
pub body_is : (plan : Plan) (head : Head) (l : LogLine) → body plan head l ++ 10 ∷ [] ≡ line_text plan head l
body_is plan head (Heading a) = refl
body_is plan head (Arrives arrival) = arrival_body (head.version == 1) arrival.number arrival.stamp (source_text plan arrival.source) (message_text plan arrival.message)
body_is plan head (Fires rule taken) = refl
body_is plan head (Does (effect.Print text)) = refl
body_is plan head (Does (effect.Post target message)) = refl
body_is plan head (Does (effect.Reply number given)) = refl
body_is plan head (IsLate source count) = refl
body_is plan head (Ends ending left partials) = refl
