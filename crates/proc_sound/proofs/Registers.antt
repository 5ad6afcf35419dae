-- Two runs between two statements, and statements that go alike: from related states into related states.
use Rattle.std.proofs.Common.{◌≡◌, inl, inr, ℕ, ◌+◌, pos, Bool, true, false, nat_lt, List, [], ◌∷◌, ◌++◌, length, map, slice_get, slice_index_or, slice_set, Option, Some, None, Ok, Err, IfOk, refl, sym, ap, ◌∙◌, subst, length-set}
use Rattle.std.specs.Prelude.{if◌then◌else◌}
use Rattle.std.proofs.lemmas.List.{map-set}
use Rattle.std.proofs.lemmas.Option.{get_or_from_slice_get}
use Rattle.std.proofs.lemmas.Result.{IfOk-weaker}
use Rattle.aria_base.specs.Kinds.{value_kind}
use Rattle.aria_base.specs.declared.schemas.Table.{Table}
use Rattle.aria_base.specs.declared.values.Value.{Value}
use Rattle.aria_base.specs.declared.values.Value.TheVariants as value
use Rattle.aria_base.specs.declared.values.Kind.{Kind}
use Rattle.aria_base.specs.declared.values.Kind.TheVariants.{Int, Text}
use Rattle.proc_lang.specs.declared.limits.TheConstants.{MOST_ACCESSES, MOST_GIVEN}
use Rattle.proc_lang.specs.declared.ends.End.TheVariants as end
use Rattle.proc_lang.specs.declared.ends.Trap.TheVariants.{Many}
use Rattle.proc_lang.specs.declared.flaws.TheConstants.{KIND, REGISTER}
use Rattle.batch_rules.specs.Trees.{Ends}
use Rattle.proc_lang.specs.Values.{Got, got, blank}
use Rattle.proc_lang.specs.Meaning.{Frame, Run}
use Rattle.proc_lang.specs.Meaning as plain
use Rattle.proc_lang.specs.Typing.{Scope, Set, found, wanted, same_kind}
use Rattle.proc_lang.specs.Typing as typing
use Rattle.proc_sound.specs.Careful.{Sure, there, State, Careful, Next, with, checked, counted, gives, holds_of, fits_register, set_to, set_one, set_all, blank_all}
use Rattle.proc_sound.proofs.Lists.{same_kind-decides, kind_at, set_same, kept_set, held_set, IsSet, IsSet-slice_set}
use Rattle.proc_sound.proofs.Results.{got_ok, wanted_ok, found_is, IsSure}
use Rattle.proc_sound.proofs.Expressions.{Registers}
use Rattle.proc_sound.proofs.Trees.{Like}

-- A plain and a careful run between the same two statements. Besides the registers that typing finds set, those of W are set and equal
pub record States (W : ℕ → Type 0) (kinds : List Kind) (set : Set) : Type 0 where
  pub frame : Frame
  pub state : State
  pub regs : Registers kinds set frame.regs state.regs
  pub count : length state.regs ≡ length frame.regs
  pub kept : (n : ℕ) → W n → slice_index_or state.regs n None ≡ slice_get frame.regs n
  pub given : state.gives ≡ frame.gives
  pub made : state.made ≡ frame.made

-- what remains of the two runs goes alike from all such states
pub record Follows (tables : List Table) (W : ℕ → Type 0) (kinds : List Kind) (set : Set) (next : plain.Next) (next' : Next) : Type 0 where
  pub like : (i : States W kinds set) → Like tables (next i.frame) (next' i.state)

-- a statement goes alike: it comes with these registers set to where it ends with those set
pub record Goes (tables : List Table) (W : ℕ → Type 0) (kinds : List Kind) (set set' : Set) (m : plain.Next → plain.Next) (m' : Next → Next) : Type 0 where
  pub go : (next : plain.Next) (next' : Next) → Follows tables W kinds set' next next' → Follows tables W kinds set (m next) (m' next')

-- ---- words of the meaning

pub with_like : {A : Type 0} (tables : List Table) (P : A → Type 0) {c : Sure A} (v : Got A) (go : A → Run) (go' : A → Careful) → IsSure P c v
    → ((x : A) → P x → Like tables (go x) (go' x)) → Like tables (plain.with v go) (with c go')
with_like tables P (Ok x) go go' s h = rw s.same (h x s.value)
with_like tables P (Err trap) go go' s h = rw s.same refl

pub checked_like : (tables : List Table) (b : Bool) (t : Run) (t' : Careful) → b ≡ true → Like tables t t' → Like tables t (checked b t')
checked_like tables true t t' e like = like
checked_like tables false t t' e like = cc

module _ (tables : List Table) {W : ℕ → Type 0} {kinds : List Kind} {set : Set} where
  -- a state in which less is known
  abbrev pub loosened : {V : ℕ → Type 0} {less : Set} (i : States W kinds set)
      → ((n : ℕ) → V n → slice_index_or i.state.regs n None ≡ slice_get i.frame.regs n)
      → ((n : ℕ) → IsSet less n → slice_index_or i.state.regs n None ≡ slice_get i.frame.regs n) → States V kinds less
  loosened i kept held = record {
    frame = i.frame;
    state = i.state;
    regs = record { kinds_are = i.regs.kinds_are; held = held };
    count = i.count;
    kept = kept;
    given = i.given;
    made = i.made;
  }

  pub counted_like : (go : plain.Next) (go' : Next) → Follows tables W kinds set go go' → (i : States W kinds set)
      → Like tables (plain.counted i.frame go) (counted go' i.state)
  counted_like go go' h i =
      let j : States W kinds set = record {
        frame = record { regs = i.frame.regs; gives = i.frame.gives; made = i.frame.made + 1 };
        state = record { regs = i.state.regs; gives = i.state.gives; made = i.state.made + 1 };
        regs = i.regs;
        count = i.count;
        kept = i.kept;
        given = i.given;
        made = ap (λ n. n + 1) i.made;
      } in
      rw (ap (λ n. nat_lt n MOST_ACCESSES) i.made)
      (elim (nat_lt i.frame.made MOST_ACCESSES) as (λ b. Like tables (if b then go j.frame else Ends (end.Trap Many))
      (if b then go' j.state else Ends (Some (end.Trap Many)))) [ true ↦ h.like j | false ↦ refl ])

  pub gives_like : (next : plain.Next) (next' : Next) → Follows tables W kinds set next next' → (v : Value) (i : States W kinds set)
      → Like tables (plain.gives next i.frame v) (gives next' i.state v)
  gives_like next next' h v i =
      let j : States W kinds set = record {
        frame = record { regs = i.frame.regs; gives = i.frame.gives ++ v ∷ []; made = i.frame.made };
        state = record { regs = i.state.regs; gives = i.state.gives ++ v ∷ []; made = i.state.made };
        regs = i.regs;
        count = i.count;
        kept = i.kept;
        given = ap (λ vs. vs ++ v ∷ []) i.given;
        made = i.made;
      } in
      rw (ap (λ vs. nat_lt (length vs) MOST_GIVEN) i.given)
      (elim (nat_lt (length i.frame.gives) MOST_GIVEN) as (λ b. Like tables (if b then next j.frame else Ends (end.Trap Many))
      (if b then next' j.state else Ends (Some (end.Trap Many)))) [ true ↦ h.like j | false ↦ refl ])

-- ---- setting registers

-- typing lets a value of the kind into the register
pub record Sets (kinds : List Kind) (n : ℕ) (k : Kind) (set set' : Set) : Type 0 where
  pub there_is : slice_get kinds n ≡ Some k
  pub is : set' ≡ slice_set set n true

pub sets_ok : (s : Scope) (n : ℕ) (k : Kind) (set : Set) → IfOk (typing.set_one s n k set) (Sets s.regs n k set)
sets_ok s n k set = got_ok (found REGISTER (slice_get s.regs n)) (λ holds. got (wanted KIND (same_kind holds k)) (λ _. Ok (slice_set set n true)))
    (λ holds. slice_get s.regs n ≡ Some holds) (Sets s.regs n k set) (found_is REGISTER (slice_get s.regs n)) (λ holds e.
    wanted_ok KIND (same_kind holds k) (λ _. Ok (slice_set set n true)) (Sets s.regs n k set)
    (λ same. record { there_is = e ∙ ap Some ((same_kind-decides holds k).0 same); is = refl }))

blank_kind : (k : Kind) → value_kind (blank k) ≡ k
blank_kind Int = refl
blank_kind Text = refl

-- a value into a register
abbrev pub setting : ℕ → Value → plain.Next → plain.Next
setting n v next f = next (plain.set_to f (slice_set f.regs n v))

abbrev pub setting_all : List ℕ → List Value → plain.Next → plain.Next
setting_all rs row next f = next (plain.set_to f (plain.set_all rs row f.regs))

abbrev pub blanking_all : List ℕ → plain.Next → plain.Next
blanking_all rs next f = next (plain.set_to f (plain.blank_all rs f.regs))

module _ (tables : List Table) (W : ℕ → Type 0) where
  abbrev changed : {kinds : List Kind} {set : Set} (i : States W kinds set) (n : ℕ) (v : Value) → slice_get kinds n ≡ Some (value_kind v)
      → States W kinds (slice_set set n true)
  changed {kinds} {set} i n v e = record {
    frame = plain.set_to i.frame (slice_set i.frame.regs n v);
    state = set_to i.state (slice_set i.state.regs n (Some v));
    regs = record {
      kinds_are = map-set value_kind i.frame.regs n v ∙ ap (λ ks. slice_set ks n (value_kind v)) i.regs.kinds_are ∙ set_same kinds n (value_kind v) e;
      held = λ m is. elim (IsSet-slice_set set n m is) [
        | inl was ↦ kept_set i.state.regs i.frame.regs n m v i.count (i.regs.held m was)
        | inr same ↦ rw same (held_set i.state.regs i.frame.regs n v i.count)
      ];
    };
    count = length-set i.state.regs n (Some v) ∙ i.count ∙ sym (length-set i.frame.regs n v);
    kept = λ m w. kept_set i.state.regs i.frame.regs n m v i.count (i.kept m w);
    given = i.given;
    made = i.made;
  }

  pub set_one_goes : {kinds : List Kind} {n : ℕ} {k : Kind} {set set' : Set} → Sets kinds n k set set' → (v : Value) → value_kind v ≡ k
      → Goes tables W kinds set set' (setting n v) (set_one kinds n v)
  set_one_goes {kinds} {n} {k} {set} {set'} sets v is = record {
    go = λ next next' h. record {
      like = λ i.
          checked_like tables (fits_register kinds n v) (setting n v next i.frame) (next' (set_to i.state (slice_set i.state.regs n (Some v))))
          (ap (λ o. holds_of o (same_kind (value_kind v))) sets.there_is ∙ (same_kind-decides (value_kind v) k).1 is)
          ((subst (λ set. Follows tables W kinds set next next') sets.is h).like (changed i n v (sets.there_is ∙ ap Some (sym is))));
    };
  }

  goes_then : {kinds : List Kind} {set mid set' : Set} {m l : plain.Next → plain.Next} {m' l' : Next → Next} → Goes tables W kinds set mid m m'
      → Goes tables W kinds mid set' l l' → Goes tables W kinds set set' (λ next. m (l next)) (λ next. m' (l' next))
  goes_then {l = l} {l' = l'} a b = record { go = λ next next' h. a.go (l next) (l' next') (b.go next next' h) }

  pub set_all_goes : (s : Scope) (rs : List ℕ) (row : List Value) (set : Set) → length rs ≡ length row
      → IfOk (typing.set_all s rs (map value_kind row) set) (λ set'. Goes tables W s.regs set set' (setting_all rs row) (set_all s.regs rs row))
  set_all_goes s [] [] set l = record { go = λ next next' h. h }
  set_all_goes s [] (v ∷ vs) set l = cc
  set_all_goes s (n ∷ ns) [] set l = cc
  set_all_goes s (n ∷ ns) (v ∷ vs) set l = got_ok (typing.set_one s n (value_kind v) set) (typing.set_all s ns (map value_kind vs))
      (Sets s.regs n (value_kind v) set) (λ set'. Goes tables W s.regs set set' (setting_all (n ∷ ns) (v ∷ vs)) (set_all s.regs (n ∷ ns) (v ∷ vs)))
      (sets_ok s n (value_kind v) set) (λ mid sets.
      IfOk-weaker (typing.set_all s ns (map value_kind vs) mid) (λ set'. Goes tables W s.regs mid set' (setting_all ns vs) (set_all s.regs ns vs))
      (λ set'. Goes tables W s.regs set set' (setting_all (n ∷ ns) (v ∷ vs)) (set_all s.regs (n ∷ ns) (v ∷ vs)))
      (λ set' rest. goes_then (set_one_goes sets v refl) rest) (set_all_goes s ns vs mid (cc)))

  blank_one_goes : {kinds : List Kind} {n : ℕ} {k : Kind} {set set' : Set} → Sets kinds n k set set'
      → Goes tables W kinds set set' (λ next f. next (plain.set_to f (plain.blank_one n f.regs)))
      (λ next s. with (there (slice_get kinds n)) (λ kind. set_one kinds n (blank kind) next s))
  blank_one_goes {kinds} {n} {k} sets = record {
    go = λ next next' h. record {
      like = λ i.
          let at = kind_at i.frame.regs n k (ap (λ ks. slice_get ks n) i.regs.kinds_are ∙ sets.there_is) in
          subst (λ (o : Option Kind). Like tables (next (plain.set_to i.frame (plain.blank_one n i.frame.regs)))
          (with (there o) (λ kind. set_one kinds n (blank kind) next' i.state))) (sym sets.there_is)
          (rw (ap value_kind (get_or_from_slice_get i.frame.regs n at.0 (value.Int (pos 0)) at.1) ∙ at.2)
          (((set_one_goes sets (blank k) (blank_kind k)).go next next' h).like i));
    };
  }

  pub blank_all_goes : (s : Scope) (rs : List ℕ) (cols : List Kind) (set : Set) → length rs ≡ length cols
      → IfOk (typing.set_all s rs cols set) (λ set'. Goes tables W s.regs set set' (blanking_all rs) (blank_all s.regs rs))
  blank_all_goes s [] [] set l = record { go = λ next next' h. h }
  blank_all_goes s [] (k ∷ ks) set l = cc
  blank_all_goes s (n ∷ ns) [] set l = cc
  blank_all_goes s (n ∷ ns) (k ∷ ks) set l = got_ok (typing.set_one s n k set) (typing.set_all s ns ks) (Sets s.regs n k set)
      (λ set'. Goes tables W s.regs set set' (blanking_all (n ∷ ns)) (blank_all s.regs (n ∷ ns))) (sets_ok s n k set) (λ mid sets.
      IfOk-weaker (typing.set_all s ns ks mid) (λ set'. Goes tables W s.regs mid set' (blanking_all ns) (blank_all s.regs ns))
      (λ set'. Goes tables W s.regs set set' (blanking_all (n ∷ ns)) (blank_all s.regs (n ∷ ns)))
      (λ set' rest. goes_then (blank_one_goes sets) rest) (blank_all_goes s ns ks mid (cc)))
