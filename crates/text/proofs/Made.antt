-- The parts that are made of what has been read. Assumes nothing.
use Rattle.std.proofs.Common.{◌≡◌, ℕ, true, List, [], ◌∷◌, ◌++◌, Some, None, sym, ap, ◌∙◌}
use Rattle.std.proofs.lemmas.List.{append_assoc, append-nil, map-append}
use Rattle.parts.specs.declared.part.Part.{Part}
use Rattle.models.specs.Trees.{Tree}
use Rattle.models.specs.Trees.Tree.{empty, choice, sequence, interleave, count}
use Rattle.models.specs.Written.{sheet, subtrees, part_of}
use Rattle.names.specs.Numbering.{known_after, symbol_in, is_known}
use Rattle.names.proofs.Numbering.{met_in_turn, symbol_stays}
use Rattle.grammar.specs.Words.{Words, Join as Spoken, Mark as Suffix}
use Rattle.grammar.specs.Words.Words.{group, marked}
use Rattle.grammar.specs.Words.Join.{alt, next, both}
use Rattle.grammar.specs.Words.Mark.{optional, repeated, any}
use Rattle.grammar.specs.Lists.{Left, put}
use Rattle.grammar.specs.Lists.State.{got}
use Rattle.grammar.specs.Meaning.{tree_of, suffixed, joining}
use Rattle.text.specs.Contents.{Made, made_of, MakesMore, symbol_part, join_part, mark_parts}
use Rattle.text.specs.Declaring.{PartsFor, JoinMade, left_parts, outer_parts, state_parts, join_of, left_join}
use Rattle.text.specs.declared.elements.Elements.{Elements}
use Rattle.text.specs.declared.mark.Mark.{Mark}
use Rattle.text.specs.declared.mark.Mark.TheVariants as mark

-- the parts of a list, and of what has a suffix
pub joined_parts : (j : Spoken) (l r : Tree) → sheet (joining j l r) ≡ sheet l ++ (sheet r ++ (join_part (join_of j) ∷ []))
joined_parts alt l r =
    map-append part_of (subtrees l) (subtrees r ++ (choice l r ∷ [])) ∙ ap (λ xs. sheet l ++ xs) (map-append part_of (subtrees r) (choice l r ∷ []))
joined_parts next l r =
    map-append part_of (subtrees l) (subtrees r ++ (sequence l r ∷ [])) ∙ ap (λ xs. sheet l ++ xs) (map-append part_of (subtrees r) (sequence l r ∷ []))
joined_parts both l r =
    map-append part_of (subtrees l) (subtrees r ++ (interleave l r ∷ [])) ∙ ap (λ xs. sheet l ++ xs) (map-append part_of (subtrees r) (interleave l r ∷ []))

-- the words' suffix that a mark is
abbrev pub suffix_of : Mark → Suffix
suffix_of mark.Optional = optional
suffix_of mark.Repeated = repeated
suffix_of mark.Any = any

pub marked_parts : (m : Mark) (t : Tree) → sheet (suffixed (suffix_of m) t) ≡ sheet t ++ mark_parts m
marked_parts mark.Optional t = joined_parts alt t empty
marked_parts mark.Repeated t = map-append part_of (subtrees t) (count t 1 0 ∷ [])
marked_parts mark.Any t =
    joined_parts alt (count t 1 0) empty
    ∙ ap (λ xs. xs ++ (sheet empty ++ (join_part (join_of alt) ∷ []))) (map-append part_of (subtrees t) (count t 1 0 ∷ []))
    ∙ append_assoc (sheet t) (part_of (count t 1 0) ∷ []) (sheet empty ++ (join_part (join_of alt) ∷ []))

-- the part that joins a member to those before it
abbrev pub joint : Left → List Part
joint None = []
joint (Some (a, j)) = join_part (join_of j) ∷ []

pub put_parts : (ks : List (List ℕ)) (l : Left) (w : Words) → sheet (tree_of ks (put l w)) ≡ (left_parts ks l ++ sheet (tree_of ks w)) ++ joint l
put_parts ks None w = sym (append-nil (sheet (tree_of ks w)))
put_parts ks (Some (a, j)) w =
    joined_parts j (tree_of ks a) (tree_of ks w) ∙ sym (append_assoc (sheet (tree_of ks a)) (sheet (tree_of ks w)) (join_part (join_of j) ∷ []))

pub more_put : (ks : List (List ℕ)) (o : List Left) (l : Left) (w : Words) → outer_parts ks o ++ sheet (tree_of ks (put l w)) ≡ state_parts (got o l w) ks ++ joint l
more_put ks o l w = ap (λ xs. outer_parts ks o ++ xs) (put_parts ks l w) ∙ sym (append_assoc (outer_parts ks o) (left_parts ks l ++ sheet (tree_of ks w)) (joint l))

pub group_closed : (ks : List (List ℕ)) (k : Left) (o : List Left) (l : Left) (w : Words) → state_parts (got o k (group (put l w))) ks ≡ state_parts (got (k ∷ o) l w) ks ++ joint l
group_closed ks k o l w = sym (append_assoc (outer_parts ks o) (left_parts ks k) (sheet (tree_of ks (put l w)))) ∙ more_put ks (k ∷ o) l w

pub member_marked : (ks : List (List ℕ)) (o : List Left) (l : Left) (w : Words) (m : Mark) → state_parts (got o l (marked w (suffix_of m))) ks ≡ state_parts (got o l w) ks ++ mark_parts m
member_marked ks o l w m =
    ap (λ xs. outer_parts ks o ++ (left_parts ks l ++ xs)) (marked_parts m (tree_of ks w))
    ∙ ap (λ xs. outer_parts ks o ++ xs) (sym (append_assoc (left_parts ks l) (sheet (tree_of ks w)) (mark_parts m)))
    ∙ sym (append_assoc (outer_parts ks o) (left_parts ks l ++ sheet (tree_of ks w)) (mark_parts m))

-- parts are made behind those so far
pub parts_more : (p q : List (List ℕ) → List Part) (ps : List Part) (e : Elements) (old new : Made) → PartsFor p e old → MakesMore old ps new
    → ((ks : List (List ℕ)) → q ks ≡ p ks ++ ps) → PartsFor q e new
parts_more p q ps e old new h more same names = more (p (known_after e.names names)) (h names) ∙ ap made_of (sym (same (known_after e.names names)))

pub parts_same : (p q : List (List ℕ) → List Part) (e : Elements) (m : Made) → PartsFor p e m → ((ks : List (List ℕ)) → q ks ≡ p ks) → PartsFor q e m
parts_same p q e m h same names = h names ∙ ap made_of (sym (same (known_after e.names names)))

-- with the join of what stands before a member
pub parts_joined : (p q : List (List ℕ) → List Part) (l : Left) (e : Elements) (old new : Made) → PartsFor p e old → JoinMade old (left_join l) new
    → ((ks : List (List ℕ)) → q ks ≡ p ks ++ joint l) → PartsFor q e new
parts_joined p q None e old new h j same = parts_same p q e new (λ names. j ∙ h names) (λ ks. same ks ∙ append-nil (p ks))
parts_joined p q (Some (a, k)) e old new h j same = parts_more p q (join_part (join_of k) ∷ []) e old new h j same

-- with the symbol of a known name, which stays whatever names come to be known
pub parts_named : (p q : List (List ℕ) → List Part) (n : List ℕ) (s : ℕ) (e : Elements) (old new : Made) → PartsFor p e old → s ≡ symbol_in e.names n → is_known e.names n ≡ true
    → MakesMore old (symbol_part s ∷ []) new → ((ks : List (List ℕ)) → q ks ≡ p ks ++ (symbol_part (symbol_in ks n) ∷ [])) → PartsFor q e new
parts_named p q n s e old new h is known more same names =
    more (p (known_after e.names names)) (h names)
    ∙ ap made_of
    (ap (λ k. p (known_after e.names names) ++ (symbol_part k ∷ [])) (is ∙ sym (symbol_stays e.names names n known)) ∙ sym (same (known_after e.names names)))

-- and where more names have come to be known
pub parts_later : (p : List (List ℕ) → List Part) (ns : List (List ℕ)) (e f : Elements) (m : Made) → f.names ≡ known_after e.names ns → PartsFor p e m → PartsFor p f m
parts_later p ns e f m grow h names =
    h (ns ++ names) ∙ ap (λ ks. made_of (p ks)) (met_in_turn e.names ns names ∙ ap (λ ks. known_after ks names) (sym grow))
