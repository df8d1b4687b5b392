-- No line has an LF but its last byte.
use Rattle.std.proofs.Common.{◌≡◌, ◌∙◌, ℕ, suc, ◌^◌, ◌<◌, ◌==◌, Bool, true, false, List, [], ◌∷◌, ◌++◌, map, Option, refl, ap, append_assoc, ⊎_elim, arith}
use Rattle.std.specs.Prelude.{ℤ, pos, negsuc, codes}
use Rattle.std.specs.List.{AllByRecursion, flat_map}
use Rattle.std.specs.Fmt.{decimal, signed_decimal}
use Rattle.std.proofs.lemmas.Bool.{cases_eq}
use Rattle.std.proofs.lemmas.Bool.Decides.{nat_tests}
use Rattle.join_base.specs.Quoted.{byte_form, quoted}
use Rattle.join_base.specs.declared.message.Source.{Source}
use Rattle.join_base.specs.declared.message.Source.TheVariants.{Feed, Actor}
use Rattle.join_base.specs.declared.message.Message.{Message}
use Rattle.join_base.specs.declared.message.Value.{Value}
use Rattle.join_base.specs.declared.message.Value.TheVariants as value
use Rattle.script_types.specs.declared.plan.Plan.{Plan}
use Rattle.script_types.specs.declared.plan.Kind.{Kind}
use Rattle.fair_semantics.specs.declared.run.Effect.TheVariants as effect
use Rattle.fair_semantics.specs.declared.run.Ending.{Ending}
use Rattle.fair_semantics.specs.declared.run.Ending.TheVariants.{Running, Stopped, Jammed, Spent}
use Rattle.fair_semantics.specs.Fits.{MessageFits, SourceFits, ValueFits}
use Rattle.arrival_log.specs.LogText.{comma_joined, ending_text, left_text, message_text, source_text, value_text}
use Rattle.script_types.specs.Names.{kind_name, name_of_actor, name_of_kind}
use Rattle.log_lines.specs.declared.line.Arrival.{Arrival}
use Rattle.log_lines.specs.declared.line.Head.{Head}
use Rattle.log_lines.specs.declared.line.LogLine.{LogLine}
use Rattle.log_lines.specs.declared.line.LogLine.TheVariants.{Heading, Arrives, Fires, Does, IsLate, Ends}
use Rattle.log_lines.specs.Cut.{lacks}
use Rattle.script_types.specs.Typed.{IsTyped}
use Rattle.log_lines.specs.Forms.{LineFits}
use Rattle.log_lines.proofs.CutLemmas.{lacks_both}
use Rattle.log_lines.proofs.NumberLemmas.{decimal_lacks}
use Rattle.log_lines.proofs.NameLemmas.{name_lacks}
use Rattle.log_lines.proofs.FieldLemmas.{fields_text}
use Rattle.log_lines.proofs.PlanLemmas.{actor_lacks, each_name, kind_at}
use Rattle.log_lines.proofs.LineLemmas.{decimals, stamped}
use Rattle.log_lines.proofs.HeadLemmas.{HeadNumbers, head_body}
use Rattle.log_lines.proofs.FormLemmas.{Heads, body, left_lacks, numbers_lack}

abbrev pub no_end : List ℕ → Bool
no_end text = lacks 10 text

form_lacks : (b : ℕ) → no_end (byte_form b) ≡ true
form_lacks b = grind (arith, nat_tests)

forms_lack : (bytes : List ℕ) → no_end (flat_map byte_form bytes) ≡ true
forms_lack [] = refl
forms_lack (b ∷ bs) = lacks_both 10 (byte_form b) (flat_map byte_form bs) (form_lacks b) (forms_lack bs)

quoted_lacks : (bytes : List ℕ) → no_end (quoted bytes) ≡ true
quoted_lacks bytes = lacks_both 10 (flat_map byte_form bytes) (34 ∷ []) (forms_lack bytes) refl

signed_lacks : (z : ℤ) → ValueFits (value.Int z) → no_end (signed_decimal z) ≡ true
signed_lacks (pos n) fits = decimal_lacks 10 n refl (omega (arith, fits.sfits))
signed_lacks (negsuc n) fits = decimal_lacks 10 (suc n) refl (omega (arith, fits.sfits))

value_lacks : (v : Value) → ValueFits v → no_end (value_text v) ≡ true
value_lacks (value.Int z) fits = signed_lacks z fits
value_lacks (value.Words bytes) fits = quoted_lacks bytes

values_lack : (values : List Value) → AllByRecursion ValueFits values → no_end (fields_text values) ≡ true
values_lack [] fits = refl
values_lack (v ∷ []) fits = lacks_both 10 (value_text v) (41 ∷ []) (value_lacks v fits.0) refl
values_lack (v ∷ w ∷ vs) fits =
    ap no_end (append_assoc (value_text v) (44 ∷ comma_joined (map value_text (w ∷ vs))) (41 ∷ []))
    ∙ lacks_both 10 (value_text v) (44 ∷ fields_text (w ∷ vs)) (value_lacks v fits.0) (values_lack (w ∷ vs) fits.1)

ending_lacks : (e : Ending) → no_end (ending_text e) ≡ true
ending_lacks Running = refl
ending_lacks Stopped = refl
ending_lacks Jammed = refl
ending_lacks Spent = refl

stamped_lacks : (b : Bool) (stamp : ℕ) (rest : List ℕ) → stamp < 2 ^ 64 → no_end rest ≡ true → no_end (stamped b stamp rest) ≡ true
stamped_lacks true stamp rest small none = none
stamped_lacks false stamp rest small none = lacks_both 10 (decimal stamp) (32 ∷ rest) (decimal_lacks 10 stamp refl small) none

module _ (plan : Plan) (typed : IsTyped plan) where
  message_lacks : (m : Message) → MessageFits plan m → no_end (message_text plan m) ≡ true
  message_lacks m fits =
      let k = kind_at plan typed m.kind m.fields fits.kind in
      let named : no_end (name_of_kind plan m.kind) ≡ true = ap (λ (o : Option Kind). no_end (kind_name o)) k.at ∙ name_lacks 10 k.item.name refl (each_name (λ (kind : Kind). kind.name) plan.kinds m.kind k.item k.at typed.kind_names.each) in
      lacks_both 10 (name_of_kind plan m.kind) (40 ∷ fields_text m.fields) named (values_lack m.fields fits.values)

  source_lacks : (feeds : ℕ) (source : Source) → feeds < 2 ^ 32 → SourceFits plan feeds source → no_end (source_text plan source) ≡ true
  source_lacks feeds (Feed k) small fits = decimal_lacks 10 k refl (omega (arith, fits.1))
  source_lacks feeds (Actor a) small fits = actor_lacks plan typed 10 a refl fits

  stamp_small : (head : Head) (arrival : Arrival) → Heads head → LineFits plan head (Arrives arrival) → arrival.stamp < 2 ^ 64
  stamp_small head arrival heads fits =
      let low = heads.version in
      ⊎_elim
      (λ (one : head.version ≡ 1). let zero = fits.stamp.first one in omega arith)
      (λ (other : head.version ≡ 1 → ⊥). let second : head.version ≡ 2 = omega (arith, low.0, low.1, other) in let bound = (fits.stamp.second second).1 in omega arith)
      (cases_eq head.version 1)

  pub body_lacks : (head : Head) (l : LogLine) → Heads head → LineFits plan head l → no_end (body plan head l) ≡ true
  body_lacks head (Heading a) heads fits = actor_lacks plan typed 10 a refl fits
  body_lacks head (Arrives arrival) heads fits =
      let small = fits.number in
      let to : List ℕ = source_text plan arrival.source ++ 32 ∷ message_text plan arrival.message in
      lacks_both 10 (decimal arrival.number) (32 ∷ stamped (head.version == 1) arrival.stamp (codes "from " ++ to)) (decimal_lacks 10 arrival.number refl (omega arith))
      (stamped_lacks (head.version == 1) arrival.stamp (codes "from " ++ to) (stamp_small head arrival heads fits)
      (lacks_both 10 (source_text plan arrival.source) (32 ∷ message_text plan arrival.message) (source_lacks head.feeds arrival.source heads.feeds fits.source) (message_lacks arrival.message fits.message)))
  body_lacks head (Fires rule taken) heads fits =
      let small = fits.rule in
      lacks_both 10 (decimal rule) (codes " take " ++ comma_joined (decimals taken)) (decimal_lacks 10 rule refl (omega arith)) (numbers_lack 10 taken refl refl fits.numbers)
  body_lacks head (Does (effect.Print text)) heads fits = quoted_lacks text
  body_lacks head (Does (effect.Post target message)) heads fits =
      lacks_both 10 (name_of_actor plan target) (32 ∷ message_text plan message) (actor_lacks plan typed 10 target refl fits.0) (message_lacks message fits.1)
  body_lacks head (Does (effect.Reply number given)) heads fits =
      let small = fits.1 in
      lacks_both 10 (decimal number) (32 ∷ value_text given) (decimal_lacks 10 number refl (omega arith)) (value_lacks given fits.2)
  body_lacks head (IsLate source count) heads fits =
      let small = fits.small in
      lacks_both 10 (source_text plan source) (32 ∷ decimal count) (source_lacks head.feeds source heads.feeds fits.source) (decimal_lacks 10 count refl small)
  body_lacks head (Ends ending left partials) heads fits =
      let small = fits.partials in
      lacks_both 10 (ending_text ending) (codes " left " ++ (left_text left ++ (codes " partials " ++ decimal partials))) (ending_lacks ending)
      (lacks_both 10 (left_text left) (codes " partials " ++ decimal partials) (left_lacks 10 left refl refl refl fits.left) (decimal_lacks 10 partials refl small))

pub head_lacks : (head : Head) → HeadNumbers head → no_end (head_body head) ≡ true
head_lacks head fits =
    let arrivals = fits.arrivals.1 in
    let partials = fits.partials.1 in
    let version = fits.version.1 in
    let feeds = fits.feeds.1 in
    let third : List ℕ = codes " feeds " ++ decimal head.feeds in
    let second : List ℕ = codes " partials " ++ (decimal head.limits.partials ++ third) in
    lacks_both 10 (decimal head.version) (codes " arrivals " ++ (decimal head.limits.arrivals ++ second)) (decimal_lacks 10 head.version refl (omega arith))
    (lacks_both 10 (decimal head.limits.arrivals) second (decimal_lacks 10 head.limits.arrivals refl (omega arith))
    (lacks_both 10 (decimal head.limits.partials) third (decimal_lacks 10 head.limits.partials refl (omega arith)) (decimal_lacks 10 head.feeds refl (omega arith))))
