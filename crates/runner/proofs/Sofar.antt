-- What is read and written of a script so far, and one piece more. Assumes nothing.
use Rattle.std.proofs.Common.{◌≡◌, ℕ, ◌+◌, ◌<◌, List, [], ◌∷◌, ◌++◌, codes, length, get_or, take, drop, None, Some, Ok, Err, Option, Result, inl, inr, sym, refl, ap, ◌∙◌, subst, append_assoc, append-nil, add-one, drop-cons, arith}
use Rattle.std.specs.Io.KnownBytes.{Appends}
use Rattle.std.specs.List.{enumerate_from}
use Rattle.std.proofs.lemmas.List.{take_more, take-append-drop, length-take-le}
use Rattle.std.proofs.lemmas.List.FromFn.{length-enumerate_from, get_or-enumerate_from}
use Rattle.parts.proofs.Joining.{gap_after, gap_more, joined_more}
use Rattle.set.specs.Histories.{History}
use Rattle.script.specs.Words.{First, Begins}
use Rattle.script.proofs.Words.{begins_more}
use Rattle.script.specs.Lines.{LineRead}
use Rattle.runner.specs.Entries.{EntriesAre, Entered, LineEntered, ScriptEntered}
use Rattle.runner.specs.Failures.{IsIo}
use Rattle.runner.specs.Scripts.{spaced, CallSaid, Said, Written, ScriptWritten}
use Rattle.runner.specs.Turns.{EntriesSaid, EntriesWritten}
use Rattle.runner.specs.declared.entry.Entry.{Entry}
use Rattle.runner.specs.declared.failure.Failure.{Failure}
use Rattle.runner.specs.declared.failure.Failure.TheVariants.{BadFile, BadInput, BadLine, Io}

pub appends_none : (a : Option (List ℕ)) → Appends a a []
appends_none None = tt
appends_none (Some xs) = sym (append-nil xs)

pub appends_both : (a b c : Option (List ℕ)) (xs ys : List ℕ) → Appends a b xs → Appends b c ys → Appends a c (xs ++ ys)
appends_both None b c xs ys f g = tt
appends_both (Some os) None c xs ys f g = absurd f
appends_both (Some os) (Some bs) None xs ys f g = absurd g
appends_both (Some os) (Some bs) (Some cs) xs ys f g = g ∙ ap (λ l. l ++ ys) f ∙ append_assoc os xs ys

-- the first words of a line, up to rest, are written
pub record Spaced (line rest : List ℕ) (old new : Option (List ℕ)) (gap : List ℕ) : Type 0 where
  pub seen : List (List ℕ)
  pub begins : Begins line seen rest
  pub between : gap ≡ gap_after (codes " ") seen
  pub written : Appends old new (spaced seen)

module _ {line rest : List ℕ} {old new : Option (List ℕ)} {gap : List ℕ} (s : Spaced line rest old new gap) where
  pub spaced_more : {w more : List ℕ} {last : Option (List ℕ)} → First rest w more → Appends new last (gap ++ w) → Spaced line more old last (codes " ")
  spaced_more {w} {more} {last} first next = record {
    seen = s.seen ++ (w ∷ []);
    begins = begins_more line s.seen w rest more s.begins first;
    between = gap_more (codes " ") s.seen w;
    written = subst (Appends old last) (ap (λ between. spaced s.seen ++ (between ++ w)) s.between ∙ joined_more (λ x. x) (codes " ") s.seen w) (appends_both old new last _ _ s.written next);
  }

-- a line that makes no call, and one that makes one
pub line_none : (line : List ℕ) (old : List Entry) → LineRead line (Ok None) → Entered (line ∷ []) old old
line_none line old h = ([], inl (h, refl), sym (append-nil old))

pub line_entry : (line : List ℕ) (old : List Entry) (e : Entry) → e.line.now ≡ line → LineRead line (Ok (Some e.call)) → Entered (line ∷ []) old (old ++ (e ∷ []))
line_entry line old e is h = (e ∷ [], inr (e, [], refl, is, h, refl), refl)

entries_both : (xs ys : List (List ℕ)) (es fs : List Entry) → EntriesAre xs es → EntriesAre ys fs → EntriesAre (xs ++ ys) (es ++ fs)
entries_both [] ys es fs h k = rw h k
entries_both (x ∷ xs) ys es fs (inl (none, h)) k = inl (none, entries_both xs ys es fs h k)
entries_both (x ∷ xs) ys es fs (inr (e, rest, cut, is, read, h)) k =
    inr (e, rest ++ fs, ap (λ l. l ++ fs) cut, is, read, entries_both xs ys rest fs h k)

-- lines entered after lines
entered_both : (xs ys : List (List ℕ)) (old mid new : List Entry) → Entered xs old mid → Entered ys mid new → Entered (xs ++ ys) old new
entered_both xs ys old mid new (es, h, f) (fs, k, g) = (es ++ fs, entries_both xs ys es fs h k, g ∙ ap (λ l. l ++ fs) f ∙ append_assoc old es fs)

pub entered_none : (old : List Entry) → Entered [] old old
entered_none old = ([], refl, sym (append-nil old))

-- one line more
pub entered_more : (lines : List (List ℕ)) (n : ℕ) (line : List ℕ) (old mid new : List Entry)
    → n < length lines → line ≡ get_or lines n line
    → Entered (take n lines) old mid → Entered (line ∷ []) mid new → Entered (take (n + 1) lines) old new
entered_more lines n line old mid new within is h k =
    subst (λ ls. Entered ls old new) (ap (λ l. take n lines ++ (l ∷ [])) is ∙ sym (take_more lines n line within)) (entered_both (take n lines) (line ∷ []) old mid new h k)

drop_one : (lines : List (List ℕ)) (n : ℕ) (line : List ℕ) → n < length lines → drop n lines ≡ get_or lines n line ∷ drop (n + 1) lines
drop_one lines n line within = rw add-one (drop-cons lines n line within)

-- the place and the text of one of the numbered lines
pub numbered : (lines : List (List ℕ)) (i n : ℕ) (line : List ℕ)
    → (i < length (enumerate_from 0 lines)) × ((n, line) ≡ get_or (enumerate_from 0 lines) i (n, line)) → (i < length lines) × (n ≡ i) × (line ≡ get_or lines i line)
numbered lines i n line (within, is) =
    let few : i < length lines = omega (arith, length-enumerate_from 0 lines) in
    let both = is ∙ get_or-enumerate_from 0 lines i (n, line) few in
    (few, (let e = ap (λ p. p.0) both in omega arith), ap (λ p. p.1) both)

-- the line after those that are entered ends the script
pub script_ended : (lines : List (List ℕ)) (n place : ℕ) (line : List ℕ) (old mid new : List Entry) (failure : Failure)
    → n < length lines → place ≡ n → line ≡ get_or lines n line
    → Entered (take n lines) old mid → LineEntered (place + 1) line mid new (Err failure) → ScriptEntered lines old new (Err failure)
script_ended lines n place line old mid new (BadFile path error) within at is h k = absurd k
script_ended lines n place line old mid new (BadInput error) within at is h k = absurd k
script_ended lines n place line old mid new (BadLine number reason) within at is h (count, bad, kept) =
    let cut = sym (take-append-drop n lines) ∙ ap (λ l. take n lines ++ l) (drop_one lines n line within ∙ ap (λ l. l ∷ drop (n + 1) lines) (sym is)) in
    let long : length (take n lines) ≡ n = omega (arith, length-take-le n lines (omega arith)) in
    (take n lines, (line, drop (n + 1) lines, cut, omega arith, bad), subst (Entered (take n lines) old) (sym kept) h)
script_ended lines n place line old mid new (Io error) within at is h k = tt

-- what goes to entries is what goes to the lines that make them
entries_lines : (lines : List (List ℕ)) (es : List Entry) (h h′ : History) (said : List ℕ) → EntriesAre lines es → EntriesSaid h es said h′ → Said h lines said h′
entries_lines [] es h h′ said are given = rw are at given
entries_lines (line ∷ lines) es h h′ said (inl (none, are)) given = ([], said, h, refl, inl (none, refl, refl), entries_lines lines es h h′ said are given)
entries_lines (line ∷ lines) es h h′ said (inr (e, rest, cut, is, read, are)) given =
    let (first, others, mid, joined, one, more) = subst (λ l. EntriesSaid h l said h′) cut given in
    (first, others, mid, joined, inr (e.call, read, subst (λ l. CallSaid h l e.call first mid) is one), entries_lines lines rest mid h′ others are more)

pub lines_written : (lines : List (List ℕ)) (es : List Entry) (old new : Option (List ℕ)) → Entered lines [] es → EntriesWritten es old new → Written lines old new
lines_written lines es old new (fs, are, is) (said, h, given, out) =
    (said, h, entries_lines lines fs [] h said are (subst (λ l. EntriesSaid [] l said h) is given), out)

-- and so it is of a script that was read, up to a bad line or to the end
pub script_written : (lines : List (List ℕ)) (es : List Entry) (outcome : Result (Unit {0}) Failure) (old new : Option (List ℕ))
    → ScriptEntered lines [] es outcome → EntriesWritten es old new → ScriptWritten lines old new outcome
script_written lines es (Ok u) old new entered given = lines_written lines es old new entered given
script_written lines es (Err (BadFile path error)) old new entered given = absurd entered
script_written lines es (Err (BadInput error)) old new entered given = absurd entered
script_written lines es (Err (BadLine number reason)) old new (before, bad, entered) given = (before, bad, lines_written before es old new entered given)
script_written lines es (Err (Io error)) old new entered given = tt

-- a failure that is of the system ends the script with nothing said
pub script_failed : (lines : List (List ℕ)) (old new : Option (List ℕ)) (failure : Failure) → IsIo failure → ScriptWritten lines old new (Err failure)
script_failed lines old new (BadFile path error) is = absurd is
script_failed lines old new (BadInput error) is = absurd is
script_failed lines old new (BadLine number reason) is = absurd is
script_failed lines old new (Io error) is = tt
