-- Well-typed statements go alike, by induction on statements and blocks.
use Rattle.std.proofs.Common.{◌≡◌, ◌⊎◌, inl, inr, ℕ, ◌+◌, ℤ, pos, ◌==◌, true, false, not, ◌&&◌, nat_lt, is_some, List, [], ◌∷◌, ◌++◌, length, map, slice_get, Some, None, Ok, Err, IfOk, refl, sym, ◌∙◌, subst}
use Rattle.std.specs.Prelude.{if◌then◌else◌}
use Rattle.std.specs.List.{list_all}
use Rattle.std.proofs.lemmas.Bool.{and_parts, eqb-true}
use Rattle.std.proofs.lemmas.Result.{IfOk-weaker}
use Rattle.aria_base.specs.Kinds.{value_kind}
use Rattle.aria_base.specs.declared.calls.Request.{Request}
use Rattle.aria_base.specs.declared.schemas.Table.{Table}
use Rattle.aria_base.specs.declared.values.Value.{Value}
use Rattle.aria_base.specs.declared.values.Value.TheVariants as value
use Rattle.aria_base.specs.declared.values.Kind.{Kind}
use Rattle.aria_base.specs.declared.values.Kind.TheVariants.{Int}
use Rattle.proc_lang.specs.declared.ends.End.{End}
use Rattle.proc_lang.specs.declared.ends.End.TheVariants as end
use Rattle.proc_lang.specs.declared.ends.Trap.TheVariants.{Absent}
use Rattle.proc_lang.specs.declared.flaws.TheConstants.{KIND, NESTING}
use Rattle.proc_lang.specs.declared.limits.TheConstants.{MOST_BLOCKS}
use Rattle.proc_lang.specs.Terms.{Term}
use Rattle.proc_lang.specs.Steps.{Absence, Traps, Fails, Blanks, Step, Steps, NoMore, More}
use Rattle.proc_lang.specs.Steps as step
use Rattle.proc_lang.specs.Values.{Got, got, is_true, tuples_of}
use Rattle.proc_lang.specs.Meaning.{Run, value_of, key_from, row_from, step_run, steps_run}
use Rattle.proc_lang.specs.Meaning as plain
use Rattle.proc_lang.specs.Typing.{Typed, Scope, Set, Reached, wanted, same_kind, kind_of, kinds_after, argument_width, agree, keyed, shaped, at_place, passed, tests, goes_over, inside, inside_each, typed_step, typed_steps}
use Rattle.proc_lang.specs.Typing as typing
use Rattle.proc_sound.specs.Careful.{Sure, Careful, Next, with, and_then, as_int, reads, list_argument, gives, careful_value, careful_key, careful_row, set_one, set_all, blank_all, read_or, find_in, row_or, for_each, careful_step, careful_steps}
use Rattle.proc_sound.proofs.Lists.{same_kind-decides, IsSet, IsSet-set_in_both}
use Rattle.proc_sound.proofs.Results.{got_ok, wanted_ok, wanted_is, everywhere, both_ok, IsSure}
use Rattle.proc_sound.proofs.Expressions.{as_int_is, Is, Tuples, Context, sound, tuples_sound}
use Rattle.proc_sound.proofs.Trees.{Like}
use Rattle.proc_sound.proofs.Registers.{States, Follows, Goes, with_like, gives_like, loosened, Sets, sets_ok, setting, setting_all, blanking_all, set_one_goes, set_all_goes, blank_all_goes}
use Rattle.proc_sound.proofs.Accesses.{count_of, Keyed, keyed_ok, Shaped, shaped_ok, IsKey, IsRow, agreed_key, agreed_row, reads_like, writes_like}

-- ---- what typing finds of a statement

passed_ok : (Q : Set → Type 0) (r : Reached) (typed : Typed Set) → IfOk typed Q → IfOk (passed r typed) (λ last. Q last.set)
passed_ok Q r (Ok set) h = h
passed_ok Q r (Err cause) h = tt

at_place_ok : {A : Type 0} (Q : A → Type 0) (place : ℕ) (typed : Typed A) → IfOk typed Q → IfOk (at_place place typed) Q
at_place_ok Q place (Ok x) h = h
at_place_ok Q place (Err cause) h = tt

-- ---- an expression, a test and a loop

module _ {s : Scope} {r : Request} {item : List ℤ} (c : Context s r item) (W : ℕ → Type 0) (set : Set) where
  -- in all related states
  abbrev IsSound : Term → Kind → Type 0
  IsSound e k = (i : States W s.regs set) → IsSure (Is k) (careful_value r item i.state.regs e) (value_of r item i.frame.regs e)

  sound_everywhere : (e : Term) → IfOk (kind_of s set e) (IsSound e)
  sound_everywhere e = everywhere (kind_of s set e) (λ (i : States W s.regs set) k. IsSure (Is k) (careful_value r item i.state.regs e)
      (value_of r item i.frame.regs e)) (λ i. (sound c i.regs e).holds)

  tests_ok : (e : Term) → IfOk (tests s set e) (λ _. IsSound e Int)
  tests_ok e = wanted_ok NESTING (nat_lt s.blocks MOST_BLOCKS) (λ _. got (kind_of s set e) (λ k. wanted KIND (same_kind k Int))) (λ _. IsSound e Int)
      (λ l. got_ok (kind_of s set e) (λ k. wanted KIND (same_kind k Int)) (IsSound e) (λ _. IsSound e Int) (sound_everywhere e) (λ k h.
      wanted_is KIND (same_kind k Int) (λ same. subst (IsSound e) ((same_kind-decides k Int).0 same) h)))

test_like : (tables : List Table) {c : Sure Value} (v : Got Value) → IsSure (Is Int) c v → (a b : Run) (a' b' : Careful) → Like tables a a' → Like tables b b'
    → Like tables (plain.with v (λ v. if is_true v then a else b)) (with (and_then c as_int) (λ n. if is_true (value.Int n) then a' else b'))
test_like tables (Ok v) s a b a' b' f g = rw (s.same, as_int_is v s.value)
    (elim (is_true v) as (λ t. Like tables (if t then a else b) (if t then a' else b')) [ true ↦ f | false ↦ g ])
test_like tables (Err trap) s a b a' b' f g = rw s.same refl

-- what the loop's block sets is not set after it, and what was set before it still is
module _ (tables : List Table) (W : ℕ → Type 0) (kinds : List Kind) (set last : Set) (body : List ℤ → plain.Next → plain.Next) (body' : List ℤ → Next → Next)
    (width : ℕ)
    (each : (t : (item : List ℤ) × (length item ≡ width)) → Goes tables (λ n. W n ⊎ IsSet set n) kinds set last (body t.0) (body' t.0)) (next : plain.Next)
    (next' : Next) (h : Follows tables W kinds set next next') where
  for_each_follows : (ts : List (List ℤ)) → Tuples width ts → Follows tables W kinds set (plain.for_each body ts next) (for_each body' ts next')
  for_each_follows [] fit = h
  for_each_follows (t ∷ ts) fit =
      let fits = and_parts (length t == width) (list_all (λ t. length t == width) ts) fit in
      let rest = for_each_follows ts fits.1 in
      record {
        like = λ i. ((each (t, eqb-true (length t) width fits.0)).go (plain.for_each body ts next) (for_each body' ts next')
            (record { like = λ j. rest.like (loosened tables j (λ n w. j.kept n (inl w)) (λ n is. j.kept n (inr is))) })).like
            (loosened tables i (λ n. elim [ inl w ↦ i.kept n w | inr is ↦ i.regs.held n is ]) i.regs.held);
      }

-- ---- reads

-- what typing finds of a read: the table, the key, and registers that take its rows and blanks of their kinds
record ReadsRow (s : Scope) (r : Request) (item : List ℤ) (W : ℕ → Type 0) (t : ℕ) (ks : List Term) (rs : List ℕ) (set set' : Set) : Type 0 where
  table : Table
  at : Keyed s.tables t (length ks) table
  key : (i : States W s.regs set) → IsSure (IsKey t table) (careful_key r item i.state.regs t ks) (key_from r item i.frame.regs t ks)
  rows : (row : (cells : List Value) × (map value_kind cells ≡ table.cols)) → Goes s.tables W s.regs set set' (setting_all rs row.0) (set_all s.regs rs row.0)
  blanks : Goes s.tables W s.regs set set' (blanking_all rs) (blank_all s.regs rs)

module _ {s : Scope} {r : Request} {item : List ℤ} (c : Context s r item) (W : ℕ → Type 0) (set : Set) where
  key_everywhere : (t parts : ℕ) (table : Table) → Keyed s.tables t parts table → (ks : List Term)
      → IfOk (agree table.key (kinds_after s set [] ks)) (λ _. (i : States W s.regs set)
      → IsSure (IsKey t table) (careful_key r item i.state.regs t ks) (key_from r item i.frame.regs t ks))
  key_everywhere t parts table at ks = everywhere (agree table.key (kinds_after s set [] ks))
      (λ (i : States W s.regs set) _. IsSure (IsKey t table) (careful_key r item i.state.regs t ks) (key_from r item i.frame.regs t ks))
      (λ i. agreed_key at r item s set c i.regs ks)

  reads_ok : (t : ℕ) (ks : List Term) (rs : List ℕ) → IfOk (typing.reads s t ks rs set) (ReadsRow s r item W t ks rs set)
  reads_ok t ks rs = got_ok (shaped s t (length ks) (length rs))
      (λ table. got (agree table.key (kinds_after s set [] ks)) (λ _. typing.set_all s rs table.cols set)) (Shaped s.tables t (length ks) (length rs))
      (ReadsRow s r item W t ks rs set) (shaped_ok s t (length ks) (length rs) c.shapes) (λ table sh.
      let K = (i : States W s.regs set) → IsSure (IsKey t table) (careful_key r item i.state.regs t ks) (key_from r item i.frame.regs t ks) in
      got_ok (agree table.key (kinds_after s set [] ks)) (λ _. typing.set_all s rs table.cols set) (λ _. K) (ReadsRow s r item W t ks rs set)
      (key_everywhere t (length ks) table sh.keyed ks) (λ _ key.
      let R = λ (row : (cells : List Value) × (map value_kind cells ≡ table.cols)) (set' : Set). Goes s.tables W s.regs set set' (setting_all rs row.0)
      (set_all s.regs rs row.0) in
      let B = λ (set' : Set). Goes s.tables W s.regs set set' (blanking_all rs) (blank_all s.regs rs) in
      IfOk-weaker (typing.set_all s rs table.cols set) (λ set'. ((row : (cells : List Value) × (map value_kind cells ≡ table.cols)) → R row set') × B set')
      (ReadsRow s r item W t ks rs set)
      (λ set' p. record { table = table; at = sh.keyed; key = key; rows = p.0; blanks = p.1 })
      (both_ok (typing.set_all s rs table.cols set) (λ set'. (row : (cells : List Value) × (map value_kind cells ≡ table.cols)) → R row set') B
      (everywhere (typing.set_all s rs table.cols set) R (λ row. subst (λ cols. IfOk (typing.set_all s rs cols set) (R row)) row.1
      (set_all_goes s.tables W s rs row.0 set (sh.columns_are ∙ sym (count_of row.0 table.cols row.1)))))
      (blank_all_goes s.tables W s rs table.cols set sh.columns_are))))

module _ {s : Scope} {r : Request} {item : List ℤ} {W : ℕ → Type 0} {t : ℕ} {ks : List Term} {rs : List ℕ} {set mid : Set}
    (h : ReadsRow s r item W t ks rs set mid) where
  read_goes : (absent : End) → Goes s.tables W s.regs set mid (λ next f. plain.reads (key_from r item f.regs t ks) (plain.read_or absent rs next) f)
      (λ next' s'. reads s.tables (careful_key r item s'.regs t ks) (read_or s.regs absent rs next') s')
  read_goes absent = record {
    go = λ next next' follows. record {
      like = λ i. reads_like h.at (key_from r item i.frame.regs t ks) (h.key i) (plain.read_or absent rs next) (read_or s.regs absent rs next')
          (elim [ None ↦ λ fits. record { like = λ j. refl } | Some row ↦ λ fits. (h.rows (row, fits)).go next next' follows ]) i;
    };
  }

  find_goes : (flag : ℕ) (last : Set) → Sets s.regs flag Int mid last
      → Goes s.tables W s.regs set last (λ next f. plain.reads (key_from r item f.regs t ks) (plain.find_in rs flag next) f)
      (λ next' s'. reads s.tables (careful_key r item s'.regs t ks) (find_in s.regs rs flag next') s')
  find_goes flag last sets = record {
    go = λ next next' follows. record {
      like = λ i. reads_like h.at (key_from r item i.frame.regs t ks) (h.key i) (plain.find_in rs flag next) (find_in s.regs rs flag next')
          (elim [
            | None ↦ λ fits. h.blanks.go (setting flag (value.Int (pos 0)) next) (set_one s.regs flag (value.Int (pos 0)) next')
                ((set_one_goes s.tables W sets (value.Int (pos 0)) refl).go next next' follows)
            | Some row ↦ λ fits. (h.rows (row, fits)).go (setting flag (value.Int (pos 1)) next) (set_one s.regs flag (value.Int (pos 1)) next')
                ((set_one_goes s.tables W sets (value.Int (pos 1)) refl).go next next' follows)
          ]) i;
    };
  }

  -- whatever it does where there is no row
  row_goes : (absence : Absence) → IfOk (typing.tells s absence mid)
      (λ last. Goes s.tables W s.regs set last (λ next f. plain.reads (key_from r item f.regs t ks) (plain.row_or absence rs next) f)
      (λ next' s'. reads s.tables (careful_key r item s'.regs t ks) (row_or s.regs absence rs next') s'))
  row_goes Traps = read_goes (end.Trap Absent)
  row_goes (Fails code) = read_goes (end.Back code)
  row_goes (Blanks flag) = IfOk-weaker (typing.set_one s flag Int mid) (Sets s.regs flag Int mid) _ (λ last sets. find_goes flag last sets)
      (sets_ok s flag Int mid)

-- ---- writes

module _ {s : Scope} {r : Request} {item : List ℤ} (c : Context s r item) (W : ℕ → Type 0) (set : Set) where
  deletes_ok : (t : ℕ) (ks : List Term) → IfOk (typing.deletes s t ks set)
      (λ set'. Goes s.tables W s.regs set set' (step_run r (step.Del t ks) item) (careful_step s.tables s.regs r (step.Del t ks) item))
  deletes_ok t ks =
      let Q = λ (set' : Set). Goes s.tables W s.regs set set' (step_run r (step.Del t ks) item) (careful_step s.tables s.regs r (step.Del t ks) item) in
      got_ok (keyed s t (length ks)) (λ table. got (agree table.key (kinds_after s set [] ks)) (λ _. Ok set)) (Keyed s.tables t (length ks)) Q
      (keyed_ok s t (length ks) c.shapes) (λ table at.
      got_ok (agree table.key (kinds_after s set [] ks)) (λ _. Ok set) (λ _. (i : States W s.regs set)
      → IsSure (IsKey t table) (careful_key r item i.state.regs t ks) (key_from r item i.frame.regs t ks)) Q
      (key_everywhere c W set t (length ks) table at ks) (λ _ key.
      record {
        go = λ next next' follows. record {
          like = λ i. writes_like at (key_from r item i.frame.regs t ks) (Ok None) (key i)
              (record { same = refl; value = tt }) next next' follows i;
        };
      }))

  writes_ok : (t : ℕ) (ks es : List Term) → IfOk (typing.writes s t ks es set)
      (λ set'. Goes s.tables W s.regs set set' (step_run r (step.Put t ks es) item) (careful_step s.tables s.regs r (step.Put t ks es) item))
  writes_ok t ks es =
      let Q = λ (set' : Set). Goes s.tables W s.regs set set' (step_run r (step.Put t ks es) item) (careful_step s.tables s.regs r (step.Put t ks es) item) in
      got_ok (shaped s t (length ks) (length es)) (λ table. got
      (agree (table.key ++ table.cols) (got (kinds_after s set [] ks) (λ kinds. kinds_after s set kinds es))) (λ _. Ok set))
      (Shaped s.tables t (length ks) (length es)) Q (shaped_ok s t (length ks) (length es) c.shapes) (λ table sh.
      let P = λ (i : States W s.regs set). IsSure (IsKey t table) (careful_key r item i.state.regs t ks) (key_from r item i.frame.regs t ks)
      × IsSure (IsRow table) (careful_row r item i.state.regs es) (got (row_from r item i.frame.regs es) (λ row. Ok (Some row))) in
      let typed = agree (table.key ++ table.cols) (got (kinds_after s set [] ks) (λ kinds. kinds_after s set kinds es)) in
      got_ok typed (λ _. Ok set) (λ _. (i : States W s.regs set) → P i) Q
      (everywhere typed (λ i _. P i) (λ i. agreed_row sh.keyed r item s set c i.regs ks es sh.keyed.parts_are)) (λ _ p.
      record {
        go = λ next next' follows. record {
          like = λ i. writes_like sh.keyed (key_from r item i.frame.regs t ks)
              (got (row_from r item i.frame.regs es) (λ row. Ok (Some row))) (p i).0 (p i).1 next next' follows i;
        };
      }))

-- ---- statements

module _ (r : Request) where
  mutual
    step_goes : (W : ℕ → Type 0) (s : Scope) (item : List ℤ) (at : Reached) → Context s r item → (st : Step)
        → IfOk (typed_step s st at) (λ last. Goes s.tables W s.regs at.set last.set (step_run r st item) (careful_step s.tables s.regs r st item))
    step_goes W s item at c (step.Let n e) =
        let Q = λ (set : Set). Goes s.tables W s.regs at.set set (step_run r (step.Let n e) item) (careful_step s.tables s.regs r (step.Let n e) item) in
        passed_ok Q at (got (kind_of s at.set e) (λ k. typing.set_one s n k at.set)) (
        got_ok (kind_of s at.set e) (λ k. typing.set_one s n k at.set) (IsSound c W at.set e) Q (sound_everywhere c W at.set e) (λ k sure.
        IfOk-weaker (typing.set_one s n k at.set) (Sets s.regs n k at.set) Q (λ set sets. record {
          go = λ next next' h. record {
            like = λ i.
                with_like s.tables (Is k) (value_of r item i.frame.regs e) (λ v. setting n v next i.frame) (λ v. set_one s.regs n v next' i.state) (sure i)
                (λ v is. ((set_one_goes s.tables W sets v is).go next next' h).like i);
          };
        }) (sets_ok s n k at.set)))
    step_goes W s item at c (step.Read absence t ks rs) =
        passed_ok _ at (got (typing.reads s t ks rs at.set) (typing.tells s absence))
        (got_ok (typing.reads s t ks rs at.set) (typing.tells s absence) (ReadsRow s r item W t ks rs at.set) _ (reads_ok c W at.set t ks rs)
        (λ mid h. row_goes h absence))
    step_goes W s item at c (step.Put t ks es) = passed_ok _ at (typing.writes s t ks es at.set) (writes_ok c W at.set t ks es)
    step_goes W s item at c (step.Del t ks) = passed_ok _ at (typing.deletes s t ks at.set) (deletes_ok c W at.set t ks)
    step_goes W s item at c (step.If e a b) =
        let Q = λ (last : Reached). Goes s.tables W s.regs at.set last.set (step_run r (step.If e a b) item)
        (careful_step s.tables s.regs r (step.If e a b) item) in
        let c' : Context (inside s) r item = record { shapes = c.shapes; args = c.args; tuple = c.tuple } in
        let start : Reached = record { next = at.next + 1; set = at.set } in
        got_ok (at_place at.next (tests s at.set e)) _ (λ _. IsSound c W at.set e Int) Q
        (at_place_ok (λ _. IsSound c W at.set e Int) at.next (tests s at.set e) (tests_ok c W at.set e)) (λ _ sure.
        got_ok (typed_steps (inside s) a start) _ (λ first. Goes s.tables W s.regs at.set first.set (steps_run r a item)
        (careful_steps s.tables s.regs r a item)) Q (steps_goes W (inside s) item start c' a) (λ first go_a.
        got_ok (typed_steps (inside s) b (record { next = first.next; set = at.set })) _
        (λ second. Goes s.tables W s.regs at.set second.set (steps_run r b item) (careful_steps s.tables s.regs r b item)) Q
        (steps_goes W (inside s) item (record { next = first.next; set = at.set }) c' b) (λ second go_b.
        record {
          go = λ next next' h. record {
            like = λ i. test_like s.tables (value_of r item i.frame.regs e) (sure i) (steps_run r a item next i.frame) (steps_run r b item next i.frame)
                (careful_steps s.tables s.regs r a item next' i.state) (careful_steps s.tables s.regs r b item next' i.state)
                ((go_a.go next next' (record {
                  like = λ j. h.like
                      (loosened s.tables j j.kept (λ n is. j.regs.held n (IsSet-set_in_both first.set second.set n is).0));
                })).like i)
                ((go_b.go next next' (record {
                  like = λ j. h.like
                      (loosened s.tables j j.kept (λ n is. j.regs.held n (IsSet-set_in_both first.set second.set n is).1));
                })).like i);
          };
        })))
    step_goes W s item at c (step.Each n body) =
        let Q = λ (last : Reached). Goes s.tables W s.regs at.set last.set (step_run r (step.Each n body) item)
        (careful_step s.tables s.regs r (step.Each n body) item) in
        let P = λ (width : ℕ). IsSure (Tuples width) (list_argument r n) (Ok (tuples_of (slice_get r.call.args n))) in
        let start : Reached = record { next = at.next + 1; set = at.set } in
        let V = λ (n : ℕ). W n ⊎ IsSet at.set n in
        got_ok (at_place at.next (goes_over s n)) _ P Q (at_place_ok P at.next (goes_over s n)
        (wanted_ok NESTING (nat_lt s.blocks MOST_BLOCKS && not (is_some s.tuple)) (λ _. argument_width s n) P
        (λ e. (tuples_sound s.args r.call.args n c.args).holds))) (λ width sure.
        got_ok (typed_steps (inside_each s width) body start) _ (λ last. (t : (item : List ℤ) × (length item ≡ width))
        → Goes s.tables V s.regs at.set last.set (steps_run r body t.0) (careful_steps s.tables s.regs r body t.0)) Q
        (everywhere (typed_steps (inside_each s width) body start)
        (λ t last. Goes s.tables V s.regs at.set last.set (steps_run r body t.0) (careful_steps s.tables s.regs r body t.0))
        (λ t. steps_goes V (inside_each s width) t.0 start (record { shapes = c.shapes; args = c.args; tuple = t.1 }) body)) (λ last each.
        record {
          go = λ next next' h. record {
            like = λ i. subst (λ (a : Sure (List (List ℤ))). Like s.tables
                (plain.for_each (steps_run r body) (tuples_of (slice_get r.call.args n)) next i.frame)
                (with a (λ tuples. for_each (careful_steps s.tables s.regs r body) tuples next' i.state))) (sym sure.same)
                ((for_each_follows s.tables W s.regs at.set last.set (steps_run r body) (careful_steps s.tables s.regs r body) width each next next' h
                (tuples_of (slice_get r.call.args n)) sure.value).like i);
          };
        }))
    step_goes W s item at c (step.Give e) =
        let Q = λ (set : Set). Goes s.tables W s.regs at.set set (step_run r (step.Give e) item) (careful_step s.tables s.regs r (step.Give e) item) in
        passed_ok Q at (got (kind_of s at.set e) (λ _. Ok at.set))
        (got_ok (kind_of s at.set e) (λ _. Ok at.set) (IsSound c W at.set e) Q (sound_everywhere c W at.set e) (λ k sure.
        record {
          go = λ next next' h. record {
            like = λ i. with_like s.tables (Is k) (value_of r item i.frame.regs e) (plain.gives next i.frame)
                (gives next' i.state) (sure i) (λ v is. gives_like s.tables next next' h v i);
          };
        }))
    step_goes W s item at c (step.Fail code) = record { go = λ next next' h. record { like = λ i. refl } }

    pub steps_goes : (W : ℕ → Type 0) (s : Scope) (item : List ℤ) (at : Reached) → Context s r item → (sts : Steps)
        → IfOk (typed_steps s sts at) (λ last. Goes s.tables W s.regs at.set last.set (steps_run r sts item) (careful_steps s.tables s.regs r sts item))
    steps_goes W s item at c NoMore = record { go = λ next next' h. h }
    steps_goes W s item at c (More first rest) = got_ok (typed_step s first at) (typed_steps s rest)
        (λ mid. Goes s.tables W s.regs at.set mid.set (step_run r first item) (careful_step s.tables s.regs r first item))
        (λ last. Goes s.tables W s.regs at.set last.set (steps_run r (More first rest) item) (careful_steps s.tables s.regs r (More first rest) item))
        (step_goes W s item at c first) (λ mid go_first.
        IfOk-weaker (typed_steps s rest mid) (λ last. Goes s.tables W s.regs mid.set last.set (steps_run r rest item)
        (careful_steps s.tables s.regs r rest item)) (λ last. Goes s.tables W s.regs at.set last.set (steps_run r (More first rest) item)
        (careful_steps s.tables s.regs r (More first rest) item))
        (λ last go_rest. record {
          go = λ next next' h. go_first.go (steps_run r rest item next) (careful_steps s.tables s.regs r rest item next')
              (go_rest.go next next' h);
        }) (steps_goes W s item mid c rest))
