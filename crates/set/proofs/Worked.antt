-- The answers about the worked pairs. Assumes nothing.
use Rattle.std.proofs.Common.{◌≡◌, ℕ, zero, suc, ◌+◌, ◌*◌, ◌≤◌, List, [], ◌∷◌, ◌++◌, Some, None, sym, refl, ap, ◌∙◌, subst, inl, inr, ⊎_elim, append_assoc, zero-add, suc-add, suc-mul, zero-mul, arith}
use Rattle.std.proofs.lemmas.Bool.Decides.{nat_tests}
use Rattle.parts.specs.declared.part.Repeats.{Repeats}
use Rattle.parts.specs.Sets.{In, only, symbols_below}
use Rattle.parts.proofs.SymbolSets.{in_only}
use Rattle.models.specs.Messages.{Message, Occurs, HasOneOf, occurrences, Shuffle, Joined}
use Rattle.models.specs.Trees.{Tree, Fits, Stands, Between, Formed}
use Rattle.models.specs.Trees.Tree.{symbol, choice, sequence, interleave, count, nonempty}
use Rattle.models.proofs.Counted.{counted_some, counted_shuffle}
use Rattle.models.proofs.Occurrences.{occurs_left, occurs_right, shuffle_occurs_left, shuffle_occurs_right, Shuffle-append, Shuffle-append_back, repeated, joined_repeated}
use Rattle.models.proofs.Ordered.{After-Shuffle}
use Rattle.rules.specs.Rules.{Rule, KeepsAll, SomeBreaks, FirstIs}
use Rattle.summaries.proofs.Carried.{carried_stands}
use Rattle.models.specs.Conflicts.{ConflictFree, first_conflict_of}
use Rattle.set.specs.Exact.{FiveInclude, Included}
use Rattle.set.specs.Five.{verdict, five, upper_bound, lower_bound, cardinality, co_occurrence, order}
use Rattle.set.proofs.Exact.{five_include}
use Rattle.set.specs.Worked.{a, b, c, maybe_a, maybe_b, Answered, AnsweredIncluded, WorkedPairs}

-- j messages and then k more
joined_append : (P : Message → Type 0) (j k : ℕ) (m n : Message) → Joined P j m → Joined P k n → Joined P (j + k) (m ++ n)
joined_append P zero k m n e h = subst (λ x. Joined P (0 + k) (x ++ n)) (sym e) (subst (λ i. Joined P i n) (sym (zero-add k)) h)
joined_append P (suc j) k m n (u, v, e, p, q) h =
    subst (λ i. Joined P i (m ++ n)) (sym (suc-add j k)) (u, v ++ n, sym (append_assoc u v n) ∙ ap (λ x. x ++ n) e, p, joined_append P j k v n q h)

-- j counts of a tree in a row are one count of it, from j times the low bound to j times the high one
module _ (t : Tree) (low high : ℕ) (bounded : 1 ≤ high) where
  counts_joined : (j : ℕ) (m : Message) → Joined (Fits (count t low high)) j m → (k : ℕ) × (j * low ≤ k) × (k ≤ j * high) × Joined (Fits t) k m
  counts_joined zero m e = (0, omega (arith, zero-mul low), omega (arith, zero-mul high), e)
  counts_joined (suc j) m (u, v, e, (i, (least, most), f), q) =
      let (k, low_more, high_more, g) = counts_joined j v q in
      let below : i ≤ high = ⊎_elim (λ z. absurd (omega arith)) (λ z. z) most in
      let times_low = suc-mul j low in
      let times_high = suc-mul j high in
      (i + k, omega arith, omega arith, subst (Joined (Fits t) (i + k)) e (joined_append (Fits t) i k u v f g))

included_counts : Included (count (count a 1 2) 1 2) (count a 1 4)
included_counts m (j, (least, most), f) =
    let (k, low, high, g) = counts_joined a 1 2 (omega arith) j m f in
    (k, (omega arith, inr (omega arith)), g)

-- one after the other is one shuffled with the other
sequence_shuffled : (l r : Tree) → Included (sequence l r) (interleave l r)
sequence_shuffled l r m (u, v, e, f, g) = (u, v, subst (Shuffle u v) e (Shuffle-append u v), f, g)

-- where every message fits, no rule is broken
module _ (include : FiveInclude) where
  all_fit : (sent expected : Tree) → Formed expected → ConflictFree expected → first_conflict_of expected ≡ None → Included sent expected → AnsweredIncluded sent expected
  all_fit sent expected formed free none included = ((none, (include sent expected formed free).1 included), included)

  first_pair : AnsweredIncluded (count (count a 1 2) 1 2) (count a 1 4)
  first_pair = all_fit (count (count a 1 2) 1 2) (count a 1 4) (omega arith, (omega arith, omega arith, inr (omega arith, omega arith))) refl refl included_counts

  fifth_pair : AnsweredIncluded (sequence a b) (interleave a b)
  fifth_pair = all_fit (sequence a b) (interleave a b) (omega arith, omega arith) (tt, tt, λ s h g. omega arith) refl (sequence_shuffled a b)

  eighth_pair : AnsweredIncluded (nonempty (sequence maybe_a maybe_b)) (nonempty (interleave maybe_a maybe_b))
  eighth_pair =
      let alone : (s : ℕ) → Stands maybe_a s → Stands maybe_b s → ⊥ = λ s h g. ⊎_elim (λ x. ⊎_elim (λ y. omega arith) (λ y. y) g) (λ x. x) h in
      all_fit (nonempty (sequence maybe_a maybe_b)) (nonempty (interleave maybe_a maybe_b)) (((omega arith, tt), (omega arith, tt)), refl) ((tt, tt, λ s h g. g), (tt, tt, λ s h g. g), alone) refl
      (λ m (f, some). (sequence_shuffled maybe_a maybe_b m f, some))

-- every message of the tree keeps each of the rules
abbrev Keeps : Tree → List Rule → Type 0
Keeps t rules = (m : Message) → Fits t m → KeepsAll rules m

-- where the rules that stand before one are kept, and some message breaks that
first_broken : (sent : Tree) (before : List Rule) (rule : Rule) (after : List Rule) → Keeps sent before → SomeBreaks sent rule
    → FirstIs (SomeBreaks sent) (before ++ (rule ∷ after)) (Some rule.verdict)
first_broken sent [] rule after kept broken = inl (broken, refl)
first_broken sent (r ∷ rs) rule after kept broken =
    inr ((λ (m, f, breaks). breaks (kept m f).0), first_broken sent rs rule after (λ m f. (kept m f).1) broken)

answered : (sent expected : Tree) (before : List Rule) (rule : Rule) (after : List Rule) → before ++ (rule ∷ after) ≡ five expected
    → first_conflict_of expected ≡ None → Keeps sent before → SomeBreaks sent rule → Answered sent expected (Some rule.verdict)
answered sent expected before rule after e free kept broken = (
  free,
  subst (λ rules. FirstIs (SomeBreaks sent) rules (Some rule.verdict)) e (first_broken sent before rule after kept broken),
)

-- the symbols of a message are in a set where those that stand in its tree are
within : (t : Tree) (set : ℕ) → ((s : ℕ) → Stands t s → In set s) → (m : Message) → Fits t m → (s : ℕ) → Occurs s m → In set s
within t set h m f s o = h s (carried_stands t s (m, f, o))

-- every message of the tree has the symbol
abbrev Has : Tree → ℕ → Type 0
Has t s = (m : Message) → Fits t m → Occurs s m

symbol_has : (s : ℕ) → Has (symbol s) s
symbol_has s m e = subst (Occurs s) (sym e) (inl refl)

left_has : (l r : Tree) (s : ℕ) → Has l s → Has (sequence l r) s
left_has l r s h m (u, v, e, f, g) = subst (Occurs s) e (occurs_left s u v (h u f))

right_has : (l r : Tree) (s : ℕ) → Has r s → Has (sequence l r) s
right_has l r s h m (u, v, e, f, g) = subst (Occurs s) e (occurs_right s u v (h v g))

count_has : (t : Tree) (low high s : ℕ) → 1 ≤ low → Has t s → Has (count t low high) s
count_has t low high s some h m (zero, w, q) = absurd (omega arith)
count_has t low high s some h m (suc j, w, (u, v, e, f, q)) = subst (Occurs s) e (occurs_left s u v (h u f))

-- six a's are more than five
second_pair : Answered (count (count a 1 2) 1 3) (count a 1 5) (Some (verdict 3 (only 0) 0 1 5))
unfolding symbols_below
second_pair =
    let sent : Tree = count (count a 1 2) 1 3 in
    let before : List Rule = upper_bound 1 ∷ lower_bound 1 ∷ [] in
    let rule : Rule = cardinality 0 record { low = 1; high = 5 } in
    let has_a : Has sent 0 = count_has (count a 1 2) 1 3 0 (omega arith) (count_has a 1 2 0 (omega arith) (symbol_has 0)) in
    let kept : Keeps sent before = λ m f. (within sent 1 (λ s h. (omega arith, grind arith)) m f, ((0, (omega arith, refl), has_a m f), tt)) in
    let two : Fits (count a 1 2) (0 ∷ 0 ∷ []) = (2, (omega arith, inr (omega arith)), joined_repeated (Fits a) (0 ∷ []) refl 2) in
    let six : Fits sent (repeated 3 (0 ∷ 0 ∷ [])) = (3, (omega arith, inr (omega arith)), joined_repeated (Fits (count a 1 2)) (0 ∷ 0 ∷ []) two 3) in
    let broken : SomeBreaks sent rule = (repeated 3 (0 ∷ 0 ∷ []), six, λ k. ⊎_elim (λ e. omega arith) (λ h. omega arith) (k (inl refl)).1) in
    answered sent (count a 1 5) before rule [] refl refl kept broken

-- the empty message has no a
third_pair : Answered (count maybe_a 1 3) (count a 1 3) (Some (verdict 2 (only 0) 0 0 0))
unfolding symbols_below
third_pair =
    let sent : Tree = count maybe_a 1 3 in
    let before : List Rule = upper_bound 1 ∷ [] in
    let kept : Keeps sent before = λ m f. (within sent 1 (λ s h. (omega arith, grind arith)) m f, tt) in
    let none : Fits sent [] = (1, (omega arith, inr (omega arith)), ([], [], refl, inr refl, refl)) in
    let broken : SomeBreaks sent (lower_bound 1) = ([], none, λ (s, i, h). h) in
    answered sent (count a 1 3) before (lower_bound 1) (cardinality 0 record { low = 1; high = 3 } ∷ []) refl refl kept broken

-- in abab an a comes after a b
fourth_pair : Answered (count (sequence a b) 1 0) (sequence (count a 1 0) (count b 1 0)) (Some (verdict 5 (only 0) (only 1) 0 0))
unfolding symbols_below
fourth_pair =
    let sent : Tree = count (sequence a b) 1 0 in
    let some : Repeats = record { low = 1; high = 0 } in
    let before : List Rule = upper_bound 3 ∷ lower_bound 3 ∷ cardinality 0 some ∷ cardinality 1 some ∷ co_occurrence 1 2 ∷ co_occurrence 2 1 ∷ [] in
    let has_a : Has sent 0 = count_has (sequence a b) 1 0 0 (omega arith) (left_has a b 0 (symbol_has 0)) in
    let has_b : Has sent 1 = count_has (sequence a b) 1 0 1 (omega arith) (right_has a b 1 (symbol_has 1)) in
    let a_one : (m : Message) → Fits sent m → HasOneOf 1 m = λ m f. (0, (omega arith, refl), has_a m f) in
    let b_one : (m : Message) → Fits sent m → HasOneOf 2 m = λ m f. (1, (omega arith, refl), has_b m f) in
    let any_one : (m : Message) → Fits sent m → HasOneOf 3 m = λ m f. (0, (omega arith, refl), has_a m f) in
    let counted : (s : ℕ) (m : Message) → Occurs s m → Between 1 0 (occurrences s m) = λ s m h. (counted_some s m h, inl refl) in
    let kept : Keeps sent before = λ m f. (within sent 3 (λ s h. (omega arith, grind arith)) m f, (any_one m f, (counted 0 m, (counted 1 m, (λ h. b_one m f, (λ h. a_one m f, tt)))))) in
    let abab : Fits sent (repeated 2 (0 ∷ 1 ∷ [])) = (2, (omega arith, inl refl), joined_repeated (Fits (sequence a b)) (0 ∷ 1 ∷ []) (0 ∷ [], 1 ∷ [], refl, refl, refl) 2) in
    let broken : SomeBreaks sent (order 0 1) = (repeated 2 (0 ∷ 1 ∷ []), abab, λ k. k (inr (inl (refl, inl refl)))) in
    answered sent (sequence (count a 1 0) (count b 1 0)) before (order 0 1) [] refl refl kept broken

-- the rules of ab or c up to the third family
abbrev bounds : List Rule
bounds =
    upper_bound 7 ∷ lower_bound 7
    ∷ cardinality 0 record { low = 1; high = 1 } ∷ cardinality 1 record { low = 1; high = 1 } ∷ cardinality 2 record { low = 1; high = 1 } ∷ []

-- a symbol that occurs does so exactly once where it does at most once
once : (s : ℕ) (m : Message) → occurrences s m ≤ 1 → Occurs s m → Between 1 1 (occurrences s m)
once s m most h = (counted_some s m h, inr most)

bounds_kept : (m : Message) → ((s : ℕ) → Occurs s m → In 7 s) → HasOneOf 7 m → occurrences 0 m ≤ 1 → occurrences 1 m ≤ 1 → occurrences 2 m ≤ 1 → KeepsAll bounds m
bounds_kept m upper lower x y z = (upper, (lower, (once 0 m x, (once 1 m y, (once 2 m z, tt)))))

-- a message of one symbol has each symbol at most once
most_once : (s x : ℕ) (m : Message) → Fits (symbol x) m → occurrences s m ≤ 1
most_once s x m e = subst (λ n. occurrences s n ≤ 1) (sym e) (grind (arith, nat_tests))

-- a alone has no b
sixth_pair : Answered (choice a c) (choice (sequence a b) c) (Some (verdict 4 (only 0) (only 1) 0 0))
unfolding symbols_below
sixth_pair =
    let sent : Tree = choice a c in
    let rest : List Rule = co_occurrence 2 1 ∷ order 0 1 ∷ order 0 2 ∷ order 1 2 ∷ order 2 0 ∷ order 2 1 ∷ [] in
    let has_one : (m : Message) → Fits sent m → HasOneOf 7 m = λ m f. ⊎_elim (λ e. (0, (omega arith, refl), symbol_has 0 m e)) (λ e. (2, (omega arith, refl), symbol_has 2 m e)) f in
    let most : (s : ℕ) (m : Message) → Fits sent m → occurrences s m ≤ 1 = λ s m f. ⊎_elim (most_once s 0 m) (most_once s 2 m) f in
    let kept : Keeps sent bounds = λ m f. bounds_kept m (within sent 7 (λ s h. (omega arith, grind arith)) m f) (has_one m f) (most 0 m f) (most 1 m f) (most 2 m f) in
    let no_b : HasOneOf 2 (0 ∷ []) → ⊥ = λ (s, i, h). let e = in_only 1 s i in grind arith in
    let broken : SomeBreaks sent (co_occurrence 1 2) = (0 ∷ [], inl refl, λ k. no_b (k (0, (omega arith, refl), inl refl))) in
    answered sent (choice (sequence a b) c) bounds (co_occurrence 1 2) rest refl refl kept broken

-- a message of ab and c is a shuffle of the two
shuffled : (m : Message) → Fits (interleave (sequence a b) c) m → Shuffle (0 ∷ 1 ∷ []) (2 ∷ []) m
shuffled m (u, v, p, (x, y, e, f, g), h) =
    let first : u ≡ 0 ∷ 1 ∷ [] = cc in
    subst (λ w. Shuffle w (2 ∷ []) m) first (subst (λ w. Shuffle u w m) h p)

-- the rules of ab or c that follow, up to the first that cab breaks
abbrev brought : List Rule
brought = co_occurrence 1 2 ∷ co_occurrence 2 1 ∷ order 0 1 ∷ []

-- a and b occur, and no a comes after the b
brought_kept : (m : Message) → Shuffle (0 ∷ 1 ∷ []) (2 ∷ []) m → KeepsAll brought m
brought_kept m p =
    let a_one : HasOneOf 1 m = (0, (omega arith, refl), shuffle_occurs_left 0 p (inl refl)) in
    let b_one : HasOneOf 2 m = (1, (omega arith, refl), shuffle_occurs_left 1 p (inr (inl refl))) in
    (λ h. b_one, (λ h. a_one, (λ h. let cases = After-Shuffle 0 1 p h in grind arith, tt)))

-- the rules of two lists are kept where those of each are
keeps_both : (first second : List Rule) (m : Message) → KeepsAll first m → KeepsAll second m → KeepsAll (first ++ second) m
keeps_both [] second m h g = g
keeps_both (r ∷ rs) second m h g = (h.0, keeps_both rs second m h.1 g)

-- in cab the a comes after the c
seventh_pair : Answered (interleave (sequence a b) c) (choice (sequence a b) c) (Some (verdict 5 (only 0) (only 2) 0 0))
unfolding symbols_below
seventh_pair =
    let sent : Tree = interleave (sequence a b) c in
    let rest : List Rule = order 1 2 ∷ order 2 0 ∷ order 2 1 ∷ [] in
    let has_one : (m : Message) → Fits sent m → HasOneOf 7 m = λ m f. (2, (omega arith, refl), shuffle_occurs_right 2 (shuffled m f) (inl refl)) in
    let counted = λ (s : ℕ) (m : Message) (f : Fits sent m). counted_shuffle s (shuffled m f) in
    let bounds_all : Keeps sent bounds = λ m f. bounds_kept m (within sent 7 (λ s h. (omega arith, grind arith)) m f) (has_one m f)
    (let n = counted 0 m f in omega arith) (let n = counted 1 m f in omega arith) (let n = counted 2 m f in omega arith) in
    let kept : Keeps sent (bounds ++ brought) = λ m f. keeps_both bounds brought m (bounds_all m f) (brought_kept m (shuffled m f)) in
    let cab : Fits sent (2 ∷ 0 ∷ 1 ∷ []) = (0 ∷ 1 ∷ [], 2 ∷ [], Shuffle-append_back (0 ∷ 1 ∷ []) (2 ∷ []), (0 ∷ [], 1 ∷ [], refl, refl, refl), refl) in
    let broken : SomeBreaks sent (order 0 2) = (2 ∷ 0 ∷ 1 ∷ [], cab, λ k. k (inl (refl, inl refl))) in
    answered sent (choice (sequence a b) c) (bounds ++ brought) (order 0 2) rest refl refl kept broken

worked_pairs : FiveInclude → WorkedPairs
worked_pairs include = (first_pair include, second_pair, third_pair, fourth_pair, fifth_pair include, sixth_pair, seventh_pair, eighth_pair include)

pub pairs_worked : WorkedPairs
pairs_worked = worked_pairs five_include
