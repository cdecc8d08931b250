-- The beginning of our host's part. Assumes nothing.
use Rattle.std.proofs.Common.{◌≡◌, ℕ, ◌+◌, ◌*◌, ◌≤◌, List, [], ◌++◌, length, Some, None, Ok, Err, Option, Result, IfOk, IfSome, MatchOption, sym, refl, ap, ◌∙◌, subst, arith, append-nil}
use Rattle.std.specs.List.{All}
use Rattle.std.proofs.lemmas.List.Elements.{All-nil}
use Rattle.bits.specs.Bits.{bytes_for}
use Rattle.bits.specs.Columns.{entry_of}
use Rattle.matrix.specs.Matrix.{Mat}
use Rattle.params.specs.declared.numbers.Numbers.{Numbers}
use Rattle.params.specs.declared.set.ParameterSet.{ParameterSet}
use Rattle.params.specs.declared.set.SetFault.{SetFault}
use Rattle.params.specs.Sets.{numbers, numbers_or}
use Rattle.host.specs.declared.Host.{Host}
use Rattle.host.specs.declared.fault.HostFault.{HostFault}
use Rattle.host.specs.Begins.{Begins}
use Rattle.host.specs.Meaning.{Knows}
use Rattle.session.specs.Table.{product}
use Rattle.runs.specs.declared.calls.Event.{Event}
use Rattle.runs.specs.Runs.{Card, asked_in}
use Rattle.runs.specs.Law.{Unknown, OfSet, Accepted, Lends, Hosted}
use Rattle.runs.specs.Reached.{Stands, Hosting, turns, Waiting}

-- no call yet
pub hosted-none : (r : Result Numbers SetFault) → Hosted r []
hosted-none (Ok s) = All-nil (λ e. Lends (bytes_for (s.m * s.t)) (asked_in e))
hosted-none (Err x) = refl

-- no set of this name, so no call
pub none-hosted : (r : Result Numbers SetFault) (part : List Event) → Unknown r → Hosted r part → part ≡ []
none-hosted (Ok s) part un h = absurd un
none-hosted (Err x) part un h = h

pub not-hosted : {X : Type 0} (o : Option X) (f : X → Result Numbers SetFault) (part : List Event) → MatchOption o (Unit {0}) (λ x. Unknown (f x)) → MatchOption o (part ≡ []) (λ x. Hosted (f x) part) → part ≡ []
not-hosted (Some x) f part un h = none-hosted (f x) part un h
not-hosted None f part un h = h

-- a set that was found has a name
pub a-set : (s : ParameterSet) (r : Result ParameterSet SetFault) (x : Result Numbers SetFault) → r ≡ Ok s → numbers_or r ≡ x → Unknown x → ⊥
a-set s r x is named un = subst Unknown (sym named ∙ ap numbers_or is) un

-- no set of this name
pub no-set : (k : Card) (r : Result ParameterSet SetFault) (x : Result Numbers SetFault) (e : SetFault) → r ≡ Err e → numbers_or r ≡ x → OfSet k x → ⊥
no-set k r x e is named h = subst (OfSet k) (sym (sym (ap numbers_or is) ∙ named)) h

pub no-host : (k : Card) (x : Result Numbers SetFault) (r : Result Host HostFault) (e : HostFault) → r ≡ Err e → Begins x r → OfSet k x → ⊥
no-host k (Ok s) r e is b h = subst (Begins (Ok s)) is b
no-host k (Err f) r e is b h = h

pub hosted-by : (s : ParameterSet) (r : Result ParameterSet SetFault) (x : Result Numbers SetFault) (l : ℕ) (part : List Event) → r ≡ Ok s → numbers_or r ≡ x → l ≡ bytes_for (s.m * s.t)
    → All (λ e. Lends l (asked_in e)) part → Hosted x part
hosted-by s r x l part is named bytes all =
    subst (λ y. Hosted y part) (sym (ap numbers_or is) ∙ named) (subst (λ z. All (λ e. Lends z (asked_in e)) part) bytes all)

pub rows-of : (k : Card) (s : ParameterSet) (r : Result ParameterSet SetFault) (x : Result Numbers SetFault) → r ≡ Ok s → numbers_or r ≡ x → OfSet k x → s.m * s.t ≡ k.secret.set.rows
rows-of k s r x is named of = subst (OfSet k) (sym named ∙ ap numbers_or is) of

-- the host as it begins
pub begins : (k : Card) (s : ParameterSet) (r : Result ParameterSet SetFault) (x : Result Numbers SetFault) (h : Host) (q : Result Host HostFault) (es : List Event) (xs ys fr : List ℕ)
    → r ≡ Ok s → numbers_or r ≡ x → q ≡ Ok h → Begins x q → IfOk q (λ h. (B : Mat) (xs ys : List ℕ) → Knows h.size B h.stage xs ys) → OfSet k x → Waiting k es
    → length xs ≡ s.m * s.t * (s.m * s.t) → length ys ≡ s.m * s.t * (s.m * s.t) → length fr ≡ bytes_for (s.m * s.t) + 3
    → Hosting k es [] h.size h.stage xs ys fr × (turns h.size h.stage ≤ 2 * (s.m * s.t) + 2)
begins k s r x h q es xs ys fr is named built does means of wait first second frame =
    let name : x ≡ Ok (numbers s) = sym named ∙ ap numbers_or is in
    let b = subst (λ y. Begins (Ok (numbers s)) y) built (subst (λ y. Begins y q) name does) in
    let m = subst (λ y. IfOk y (λ h. (B : Mat) (xs ys : List ℕ) → Knows h.size B h.stage xs ys)) built means in
    let rows : s.m * s.t ≡ k.secret.set.rows = subst (OfSet k) name of in
    let size = b.0 in (
      record {
        size = b.0 ∙ rows;
        first = first ∙ (λ i. sym b.0 i * sym b.0 i);
        second = second ∙ (λ i. sym b.0 i * sym b.0 i);
        frame = frame ∙ ap (λ n. bytes_for n + 3) (sym b.0);
        accepted = All-nil Accepted;
        knows = m (entry_of (product k.secret)) xs ys;
        stands = subst (λ z. Stands k (es ++ []) z) (sym b.1) (subst (Waiting k) (sym (append-nil es)) wait);
      },
      subst (λ z. turns h.size z ≤ 2 * (s.m * s.t) + 2) (sym b.1) (omega (arith, size)),
    )

-- no call, whether or not our host is called for
pub matched-none : {X : Type 0} (o : Option X) (f : X → Result Numbers SetFault) → MatchOption o (◌≡◌ {A = List Event} [] []) (λ x. Hosted (f x) [])
matched-none (Some x) f = hosted-none (f x)
matched-none None f = refl

pub if-any : {X : Type 0} (o : Option X) (P : X → Type 0) → ((x : X) → P x) → IfSome o P
if-any (Some x) P h = h x
if-any None P h = tt

pub if-more : {X : Type 0} (o : Option X) (P Q : X → Type 0) → ((x : X) → P x → Q x) → IfSome o P → IfSome o Q
if-more (Some x) P Q f h = f x h
if-more None P Q f h = tt

pub matched-more : {X : Type 0} (o : Option X) (A B : Type 0) (P Q : X → Type 0) → (A → B) → ((x : X) → P x → Q x) → MatchOption o A P → MatchOption o B Q
matched-more (Some x) A B P Q f g h = g x h
matched-more None A B P Q f g h = f h
