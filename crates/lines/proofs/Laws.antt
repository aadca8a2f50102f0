-- Reading is the inverse of printing: `parse_line`, `parse_lines` and `parse_block` read exactly what `line_text`, `lines_text` and `block_text` print.
-- Assumes nothing.
use Rattle.std.specs.Prelude.{◌≡◌, ◌∷◌, ◌++◌, ◌+◌, ◌%◌, ◌≤◌}
use Rattle.laws.proofs.Prelude.{refl, sym, ap, ap₂, ◌∙◌, true, false, List, [], append_assoc, Option, Some, None, ℕ, zero, suc}
use Rattle.laws.proofs.Prelude.{arith, eq-eqb, eqb-true, eqb-false, eqb, ℤ, pos, negsuc, length}
use Rattle.decimal.specs.Decimal.{decimal, decimalℤ, Stops}
use Rattle.decimal.specs.Parse.{Parsed, parsed, failed, parseℤ}
use Rattle.decimal.proofs.Digits.{decimal_one, decimal_more, by_digits}
use Rattle.decimal.proofs.Steps.{cases, digit}
use Rattle.decimal.proofs.Laws.{parseℤ_complete, parseℤ_sound}
use Rattle.lines.specs.Text.{field_end, line_text, lines_text, block_text, AllShort, Fields, AllFields}
use Rattle.lines.specs.Parse.{strip_prefix, ParsedLine, after, end_at, parse_line, starts_number, ParsedLines, parse_lines, after_names, parse_block}
use Rattle.lines.proofs.Steps.{line_failed, line_end, line_other, line_next, lines_none, lines_broken, lines_next}

pub ends : (vs : List ℤ) → field_end vs ≡ end_at (length vs)
ends [] = refl
ends (v ∷ vs) = refl

stops : (vs : List ℤ) (t : List ℕ) → Stops (field_end vs ∷ t)
stops [] t = refl
stops (v ∷ vs) t = refl

pub line_complete : (vs : List ℤ) (t : List ℕ) → AllShort vs → parse_line (length vs) (line_text vs ++ t) ≡ record { numbers = vs; rest = Some t }
unfolding parse_line line_text
line_complete [] t h = refl
line_complete (v ∷ vs) t h =
    let n : parseℤ 10000000 (decimalℤ v ++ (field_end vs ∷ (line_text vs ++ t))) ≡ parsed v (field_end vs ∷ (line_text vs ++ t))
    = parseℤ_complete 10000000 v (field_end vs ∷ (line_text vs ++ t)) h.0 (stops vs (line_text vs ++ t)) in
    rw (append_assoc (decimalℤ v) (field_end vs ∷ line_text vs) t)
    (line_next (length vs) (decimalℤ v ++ (field_end vs ∷ (line_text vs ++ t))) v (field_end vs) (line_text vs ++ t) n (ends vs)
    ∙ ap (after v) (line_complete vs t h.1))

pub never : {P : Type 0} {r : (Option (List ℕ))} {t : List ℕ} → r ≡ None → r ≡ Some t → P
never p q = let z : ◌≡◌ {A = ℕ} 0 1 = cc in absurd (omega arith)

-- what a line that was read says of the text
pub record LineIs (k : ℕ) (s : List ℕ) (l : ParsedLine) (t : List ℕ) : Type 0 where
  pub text : s ≡ line_text l.numbers ++ t
  pub fields : Fields k l.numbers

line_after : (k : ℕ) (s : List ℕ) (v : ℤ) (b : ℕ) (u : List ℕ) (l : ParsedLine) (t : List ℕ) → parseℤ 10000000 s ≡ parsed v (b ∷ u) → b ≡ end_at k → LineIs k u l t
    → LineIs (suc k) s (after v l) t
unfolding line_text
line_after k s v b u l t g e i =
    let q = parseℤ_sound 10000000 s v (b ∷ u) (omega arith) g in
    let byte : b ≡ field_end l.numbers = e ∙ sym (ends l.numbers ∙ ap end_at i.fields.count) in
    record {
      text =
          q.text
          ∙ ap (λ (x : ℕ). decimalℤ v ++ (x ∷ u)) byte
          ∙ ap (λ (x : List ℕ). decimalℤ v ++ (field_end l.numbers ∷ x)) i.text
          ∙ sym (append_assoc (decimalℤ v) (field_end l.numbers ∷ line_text l.numbers) t);
      fields = record { count = ap suc i.fields.count; short = (q.below, i.fields.short) };
    }

pub line_sound : (k : ℕ) (s t : List ℕ) → (parse_line k s).rest ≡ Some t → LineIs k s (parse_line k s) t
unfolding parse_line line_text
line_sound zero s t h = let e : s ≡ t = cc in record { text = e; fields = record { count = refl; short = tt } }
line_sound (suc k) s t h = go (parseℤ 10000000 s) refl (λ u. line_sound k u t)
  where
    go : (g : Parsed ℤ) → parseℤ 10000000 s ≡ g → ((u : List ℕ) → (parse_line k u).rest ≡ Some t → LineIs k u (parse_line k u) t) → LineIs (suc k) s (parse_line (suc k) s) t
    go failed e ih = never (ap (λ (l : ParsedLine). l.rest) (line_failed k s e)) h
    go (parsed v []) e ih = never (ap (λ (l : ParsedLine). l.rest) (line_end k s v e)) h
    go (parsed v (b ∷ u)) e ih =
        cases (eqb b (end_at k))
        (λ c.
        let same = line_next k s v b u e (eqb-true b (end_at k) c) in
        rw same (line_after k s v b u (parse_line k u) t e (eqb-true b (end_at k) c) (ih u (sym (ap (λ (l : ParsedLine). l.rest) same) ∙ h))))
        (λ c. never (ap (λ (l : ParsedLine). l.rest) (line_other k s v b u e (eqb-false b (end_at k) c))) h)

decimal_starts : (n : ℕ) (t : List ℕ) → starts_number (decimal n ++ t) ≡ true
decimal_starts =
    by_digits (λ (n : ℕ). (t : List ℕ) → starts_number (decimal n ++ t) ≡ true)
    (λ n a t. rw (decimal_one n a, digit (48 + n) (omega arith) (omega arith)))
    (λ n a more t. rw (decimal_more n a, append_assoc) (more ((48 + n % 10) ∷ t)))

digits_starts : (v : ℤ) (t : List ℕ) → starts_number (decimalℤ v ++ t) ≡ true
digits_starts (pos n) t = decimal_starts n t
digits_starts (negsuc n) t = refl

line_starts : (k : ℕ) (vs : List ℤ) (t : List ℕ) → length vs ≡ suc k → starts_number (line_text vs ++ t) ≡ true
unfolding line_text
line_starts k [] t h = absurd (omega arith)
line_starts k (v ∷ vs) t h = rw (append_assoc (decimalℤ v) (field_end vs ∷ line_text vs) t) (digits_starts v ((field_end vs ∷ line_text vs) ++ t))

pub lines_complete : (m k : ℕ) (ls : List (List ℤ)) (t : List ℕ) → length ls ≤ m → AllFields (suc k) ls → starts_number t ≡ false
    → parse_lines m (suc k) (lines_text ls ++ t) ≡ record { lines = ls; rest = Some t }
unfolding lines_text
lines_complete m k [] t h a e = lines_none m (suc k) t e
lines_complete zero k (r ∷ ls) t h a e = absurd (omega arith)
lines_complete (suc m) k (r ∷ ls) t h a e =
    let l : parse_line (suc k) (line_text r ++ (lines_text ls ++ t)) ≡ record { numbers = r; rest = Some (lines_text ls ++ t) }
    = ap (λ (n : ℕ). parse_line n (line_text r ++ (lines_text ls ++ t))) (sym a.0.count) ∙ line_complete r (lines_text ls ++ t) a.0.short in
    rw (append_assoc (line_text r) (lines_text ls) t)
    (lines_next m (suc k) (line_text r ++ (lines_text ls ++ t)) (lines_text ls ++ t) (line_starts k r (lines_text ls ++ t) a.0.count) (ap (λ (x : ParsedLine). x.rest) l)
    ∙ rw (l, lines_complete m k ls t (omega arith) a.1 e))

-- what lines that were read say of the text
pub record LinesAre (m k : ℕ) (s : List ℕ) (r : ParsedLines) (t : List ℕ) : Type 0 where
  pub text : s ≡ lines_text r.lines ++ t
  pub few : length r.lines ≤ m
  pub fields : AllFields k r.lines

no_lines : (m k : ℕ) (s t : List ℕ) → ◌≡◌ {A = (Option (List ℕ))} (Some s) (Some t) → LinesAre m k s (record { lines = []; rest = Some s }) t
unfolding lines_text
no_lines m k s t h = let e : s ≡ t = cc in record { text = e; few = omega arith; fields = tt }

line_before : (m k : ℕ) (s u t : List ℕ) (l : ParsedLine) (r : ParsedLines) → LineIs k s l u → LinesAre m k u r t
    → LinesAre (suc m) k s (record { lines = l.numbers ∷ r.lines; rest = r.rest }) t
unfolding lines_text
line_before m k s u t l r a b = record {
  text = a.text ∙ ap (λ (x : List ℕ). line_text l.numbers ++ x) b.text ∙ sym (append_assoc (line_text l.numbers) (lines_text r.lines) t);
  few = omega arith;
  fields = (a.fields, b.fields);
}

lines_on : (m k : ℕ) (s t : List ℕ) → (parse_lines (suc m) k s).rest ≡ Some t → ((u : List ℕ) → (parse_lines m k u).rest ≡ Some t → LinesAre m k u (parse_lines m k u) t)
    → LinesAre (suc m) k s (parse_lines (suc m) k s) t
lines_on m k s t h ih =
    cases (starts_number s)
    (λ b. go b (parse_line k s).rest refl)
    (λ b.
    let same = lines_none (suc m) k s b in
    rw same (no_lines (suc m) k s t (sym (ap (λ (r : ParsedLines). r.rest) same) ∙ h)))
  where
    go : starts_number s ≡ true → (r : (Option (List ℕ))) → (parse_line k s).rest ≡ r → LinesAre (suc m) k s (parse_lines (suc m) k s) t
    go b None e = never (ap (λ (r : ParsedLines). r.rest) (lines_broken m k s b e)) h
    go b (Some u) e =
        let same = lines_next m k s u b e in
        rw same (line_before m k s u t (parse_line k s) (parse_lines m k u) (line_sound k s u e) (ih u (sym (ap (λ (r : ParsedLines). r.rest) same) ∙ h)))

pub lines_sound : (m k : ℕ) (s t : List ℕ) → (parse_lines m k s).rest ≡ Some t → LinesAre m k s (parse_lines m k s) t
unfolding parse_lines
lines_sound zero k s t h = no_lines zero k s t h
lines_sound (suc m) k s t h = lines_on m k s t h (λ u. lines_sound m k u t)

pub strip_prefix_complete : (prefix t : List ℕ) → strip_prefix prefix (prefix ++ t) ≡ Some t
unfolding strip_prefix
strip_prefix_complete [] t = refl
strip_prefix_complete (a ∷ prefix) t = rw (eq-eqb a a refl) (strip_prefix_complete prefix t)

pub strip_prefix_sound : (prefix s t : List ℕ) → strip_prefix prefix s ≡ Some t → s ≡ prefix ++ t
unfolding strip_prefix
strip_prefix_sound [] s t h = cc
strip_prefix_sound (a ∷ prefix) [] t h = never refl h
strip_prefix_sound (a ∷ prefix) (b ∷ s) t h =
    cases (eqb b a)
    (λ e. ap₂ ◌∷◌ (eqb-true b a e) (strip_prefix_sound prefix s t (rw e at h)))
    (λ e. never refl (rw e at h))

pub block_complete : (prefix : List ℕ) (m k : ℕ) (ls : List (List ℤ)) (t : List ℕ) → length ls ≤ m → AllFields (suc k) ls → starts_number t ≡ false
    → parse_block prefix m (suc k) (block_text prefix ls ++ t) ≡ record { lines = ls; rest = Some t }
unfolding parse_block block_text
block_complete prefix m k ls t h a e = rw (append_assoc prefix (lines_text ls) t, strip_prefix_complete prefix (lines_text ls ++ t)) (lines_complete m k ls t h a e)

-- what a block that was read says of the text
pub record BlockIs (prefix : List ℕ) (m k : ℕ) (s : List ℕ) (r : ParsedLines) (t : List ℕ) : Type 0 where
  pub text : s ≡ block_text prefix r.lines ++ t
  pub few : length r.lines ≤ m
  pub fields : AllFields k r.lines

pub block_sound : (prefix : List ℕ) (m k : ℕ) (s t : List ℕ) → (parse_block prefix m k s).rest ≡ Some t → BlockIs prefix m k s (parse_block prefix m k s) t
unfolding parse_block block_text
block_sound prefix m k s t h = go (strip_prefix prefix s) refl h
  where
    go : (r : (Option (List ℕ))) → strip_prefix prefix s ≡ r → (after_names m k r).rest ≡ Some t → BlockIs prefix m k s (after_names m k r) t
    go None e g = never refl g
    go (Some u) e g =
        let q = lines_sound m k u t g in
        record {
          text = strip_prefix_sound prefix s u e ∙ ap (λ (x : List ℕ). prefix ++ x) q.text ∙ sym (append_assoc prefix (lines_text (parse_lines m k u).lines) t);
          few = q.few;
          fields = q.fields;
        }
