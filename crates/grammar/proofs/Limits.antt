-- Texts at the limits. Assumes nothing.
use Rattle.std.proofs.Common.{[], refl, inl, inr, arith}
use Rattle.std.specs.Prelude.{codes}
use Rattle.std.proofs.lemmas.Bool.{false≢true}
use Rattle.grammar.specs.Words.Sign.{names, opens}
use Rattle.grammar.specs.Declarations.Sign.{element, declared, any_word, inner}
use Rattle.grammar.specs.Tried.{Limit0, Limit1, Limit2, Limit3, Limit4, Limit5, Limit6, Limit7, Limit8, Limit9, Limit10, Limit11, Limit12, Limit13, Limit14, Limit15, Limit16, Limit17, Limit18, Limit19, Limit20, Limit21, Limit22, Limit23, Limit24, Limits}
use Rattle.grammar.proofs.Judged.{gave, gave_parts, gave_sign}

limit0 : Limit0
limit0 = (gave_sign (codes "<!ELEMENT a ANY>") 12 any_word _ _ refl refl refl refl tt refl tt refl).0 tt

limit1 : Limit1
limit1 = (gave_sign (codes "<!ELEMENT a ANYx>") 12 any_word _ _ refl refl refl refl tt refl tt refl).0 tt

limit2 : Limit2
limit2 = (gave_sign (codes "<!ELEMENT a ANY") 12 any_word _ _ refl refl refl refl tt refl tt refl).0 tt

limit3 : Limit3
limit3 = gave (codes "<!ELEMENT a (b)>") _ _ refl refl

limit4 : Limit4
limit4 = gave (codes "<!ELEMENT a (b)?>") _ _ refl refl

limit5 : Limit5
limit5 = gave (codes "<!ELEMENT a ((b))*>") _ _ refl refl

limit6 : Limit6
limit6 = (gave_sign (codes "<!ELEMENT a EMPTY> <!ELEMENT a EMPTY>") 29 (declared (codes "a")) _ _ refl refl refl refl (refl, tt) refl refl refl).0 refl

limit7 : Limit7
limit7 = (gave_sign (codes "<!ELEMENT a EMPTY><!ELEMENT a") 28 (declared (codes "a")) _ _ refl refl refl refl (refl, tt) refl tt refl).0 refl

limit8 : Limit8
limit8 = (gave_sign (codes "<!ELEMENT a EMPTY><!ELEMENT a%") 28 (declared (codes "a")) _ _ refl refl refl refl (refl, tt) refl refl refl).0 refl

limit9 : Limit9
limit9 = (gave_sign (codes "<!ELEMENT nnnnnnnnnnnnnnnnnnnnnnnnnnnnnnnnn EMPTY>") 10 (declared (codes "nnnnnnnnnnnnnnnnnnnnnnnnnnnnnnnnn")) _ _ refl refl refl refl (refl, (refl, (refl, (refl, (refl, (refl, (refl, (refl, (refl, (refl, (refl, (refl, (refl, (refl, (refl, (refl, (refl, (refl, (refl, (refl, (refl, (refl, (refl, (refl, (refl, (refl, (refl, (refl, (refl, (refl, (refl, (refl, (refl, tt))))))))))))))))))))))))))))))))) refl refl refl).1 false≢true (inl (omega arith))

limit10 : Limit10
limit10 = (gave_sign (codes "<!ELEMENT a (nnnnnnnnnnnnnnnnnnnnnnnnnnnnnnnnn%") 13 (inner (names (codes "nnnnnnnnnnnnnnnnnnnnnnnnnnnnnnnnn"))) _ _ refl refl refl refl (refl, (refl, (refl, (refl, (refl, (refl, (refl, (refl, (refl, (refl, (refl, (refl, (refl, (refl, (refl, (refl, (refl, (refl, (refl, (refl, (refl, (refl, (refl, (refl, (refl, (refl, (refl, (refl, (refl, (refl, (refl, (refl, (refl, tt))))))))))))))))))))))))))))))))) refl refl refl).1 (λ x. x) (inl (omega arith))

limit11 : Limit11
limit11 = (gave_sign (codes "<!ELEMENT a (nnnnnnnnnnnnnnnnnnnnnnnnnnnnnnnnn") 13 (inner (names (codes "nnnnnnnnnnnnnnnnnnnnnnnnnnnnnnnnn"))) _ _ refl refl refl refl (refl, (refl, (refl, (refl, (refl, (refl, (refl, (refl, (refl, (refl, (refl, (refl, (refl, (refl, (refl, (refl, (refl, (refl, (refl, (refl, (refl, (refl, (refl, (refl, (refl, (refl, (refl, (refl, (refl, (refl, (refl, (refl, (refl, tt))))))))))))))))))))))))))))))))) refl tt refl).1 (λ x. x) (inl (omega arith))

limit12 : Limit12
limit12 = gave (codes "<!ELEMENT a ((((((((((((((((b))))))))))))))))>") _ _ refl refl

limit13 : Limit13
limit13 = (gave_sign (codes "<!ELEMENT a (((((((((((((((((b)))))))))))))))))>") 28 (inner opens) _ _ refl refl refl refl tt refl tt refl).1 (λ x. x) (omega arith)

limit14 : Limit14
limit14 = (gave_sign (codes "<!ELEMENT a (((((((((((((((((") 28 (inner opens) _ _ refl refl refl refl tt refl tt refl).1 (λ x. x) (omega arith)

limit15 : Limit15
limit15 = gave (codes "<!ELEMENT e0 EMPTY><!ELEMENT e1 EMPTY><!ELEMENT e2 EMPTY><!ELEMENT e3 EMPTY><!ELEMENT e4 EMPTY><!ELEMENT e5 EMPTY><!ELEMENT e6 EMPTY><!ELEMENT e7 EMPTY><!ELEMENT e8 EMPTY><!ELEMENT e9 EMPTY><!ELEMENT e10 EMPTY><!ELEMENT e11 EMPTY><!ELEMENT e12 EMPTY><!ELEMENT e13 EMPTY><!ELEMENT e14 EMPTY><!ELEMENT e15 EMPTY><!ELEMENT e16 EMPTY><!ELEMENT e17 EMPTY><!ELEMENT e18 EMPTY><!ELEMENT e19 EMPTY><!ELEMENT e20 EMPTY><!ELEMENT e21 EMPTY><!ELEMENT e22 EMPTY><!ELEMENT e23 EMPTY><!ELEMENT e24 EMPTY><!ELEMENT e25 EMPTY><!ELEMENT e26 EMPTY><!ELEMENT e27 EMPTY><!ELEMENT e28 EMPTY><!ELEMENT e29 EMPTY><!ELEMENT e30 EMPTY><!ELEMENT e31 EMPTY>") _ _ refl refl

limit16 : Limit16
limit16 = (gave_sign (codes "<!ELEMENT e0 EMPTY><!ELEMENT e1 EMPTY><!ELEMENT e2 EMPTY><!ELEMENT e3 EMPTY><!ELEMENT e4 EMPTY><!ELEMENT e5 EMPTY><!ELEMENT e6 EMPTY><!ELEMENT e7 EMPTY><!ELEMENT e8 EMPTY><!ELEMENT e9 EMPTY><!ELEMENT e10 EMPTY><!ELEMENT e11 EMPTY><!ELEMENT e12 EMPTY><!ELEMENT e13 EMPTY><!ELEMENT e14 EMPTY><!ELEMENT e15 EMPTY><!ELEMENT e16 EMPTY><!ELEMENT e17 EMPTY><!ELEMENT e18 EMPTY><!ELEMENT e19 EMPTY><!ELEMENT e20 EMPTY><!ELEMENT e21 EMPTY><!ELEMENT e22 EMPTY><!ELEMENT e23 EMPTY><!ELEMENT e24 EMPTY><!ELEMENT e25 EMPTY><!ELEMENT e26 EMPTY><!ELEMENT e27 EMPTY><!ELEMENT e28 EMPTY><!ELEMENT e29 EMPTY><!ELEMENT e30 EMPTY><!ELEMENT e31 EMPTY><!ELEMENT e32 EMPTY>") 630 element _ _ refl refl refl refl tt refl tt refl).1 (λ x. x) (omega arith)

limit17 : Limit17
limit17 = (gave_sign (codes "<!ELEMENT e0 EMPTY><!ELEMENT e1 EMPTY><!ELEMENT e2 EMPTY><!ELEMENT e3 EMPTY><!ELEMENT e4 EMPTY><!ELEMENT e5 EMPTY><!ELEMENT e6 EMPTY><!ELEMENT e7 EMPTY><!ELEMENT e8 EMPTY><!ELEMENT e9 EMPTY><!ELEMENT e10 EMPTY><!ELEMENT e11 EMPTY><!ELEMENT e12 EMPTY><!ELEMENT e13 EMPTY><!ELEMENT e14 EMPTY><!ELEMENT e15 EMPTY><!ELEMENT e16 EMPTY><!ELEMENT e17 EMPTY><!ELEMENT e18 EMPTY><!ELEMENT e19 EMPTY><!ELEMENT e20 EMPTY><!ELEMENT e21 EMPTY><!ELEMENT e22 EMPTY><!ELEMENT e23 EMPTY><!ELEMENT e24 EMPTY><!ELEMENT e25 EMPTY><!ELEMENT e26 EMPTY><!ELEMENT e27 EMPTY><!ELEMENT e28 EMPTY><!ELEMENT e29 EMPTY><!ELEMENT e30 EMPTY><!ELEMENT e31 EMPTY><!ELEMENTx") 630 element _ _ refl refl refl refl tt refl tt refl).1 (λ x. x) (omega arith)

limit18 : Limit18
limit18 = gave (codes "<!ELEMENT a (n0,n1,n2,n3,n4,n5,n6,n7,n8,n9,n10,n11,n12,n13,n14,n15,n16,n17,n18,n19,n20,n21,n22,n23,n24,n25,n26,n27,n28,n29,n30,n31,n32,n33,n34,n35,n36,n37,n38,n39,n40,n41,n42,n43,n44,n45,n46,n47,n48,n49,n50,n51,n52,n53,n54,n55,n56,n57,n58,n59,n60,n61,n62)>") _ _ refl refl

limit19 : Limit19
limit19 = (gave_sign (codes "<!ELEMENT a (n0,n1,n2,n3,n4,n5,n6,n7,n8,n9,n10,n11,n12,n13,n14,n15,n16,n17,n18,n19,n20,n21,n22,n23,n24,n25,n26,n27,n28,n29,n30,n31,n32,n33,n34,n35,n36,n37,n38,n39,n40,n41,n42,n43,n44,n45,n46,n47,n48,n49,n50,n51,n52,n53,n54,n55,n56,n57,n58,n59,n60,n61,n62,n63)>") 255 (inner (names (codes "n63"))) _ _ refl refl refl refl (refl, (refl, (refl, tt))) refl refl refl).1 (λ x. x) (inr (refl, omega arith))

limit20 : Limit20
limit20 = gave (codes "<!ELEMENT a (a,a,a,a,a,a,a,a,a,a,a,a,a,a,a,a,a,a,a,a,a,a,a,a,a,a,a,a,a,a,a,a,a,a,a,a,a,a,a,a,a,a,a,a,a,a,a,a,a,a,a,a,a,a,a,a,a,a,a,a,a,a,a,a,a,a,a,a,a,a,a,a,a,a,a,a,a,a,a,a,a,a,a,a,a,a,a,a,a,a,a,a,a,a,a,a,a,a,a,a,a,a,a,a,a,a,a,a,a,a,a,a,a,a,a,a,a,a,a,a,a,a,a,a,a,a,a,a)>") _ _ refl refl

limit21 : Limit21
limit21 = gave_parts (codes "<!ELEMENT a (a,a,a,a,a,a,a,a,a,a,a,a,a,a,a,a,a,a,a,a,a,a,a,a,a,a,a,a,a,a,a,a,a,a,a,a,a,a,a,a,a,a,a,a,a,a,a,a,a,a,a,a,a,a,a,a,a,a,a,a,a,a,a,a,a,a,a,a,a,a,a,a,a,a,a,a,a,a,a,a,a,a,a,a,a,a,a,a,a,a,a,a,a,a,a,a,a,a,a,a,a,a,a,a,a,a,a,a,a,a,a,a,a,a,a,a,a,a,a,a,a,a,a,a,a,a,a,a,a)>") 271 _ _ [] _ refl refl refl refl refl refl refl refl

limit22 : Limit22
limit22 = gave (codes "<!ELEMENT a (a,a,a,a,a,a,a,a,a,a,a,a,a,a,a,a,a,a,a,a,a,a,a,a,a,a,a,a,a,a,a,a,a,a,a,a,a,a,a,a,a,a,a,a,a,a,a,a,a,a,a,a,a,a,a,a,a,a,a,a,a,a,a,a,a,a,a,a,a,a,a,a,a,a,a,a,a,a,a,a,a,a,a,a,a,a,a,a,a,a,a,a,a,a,a,a,a,a,a,a,a,a,a,a,a,a,a,a,a,a,a,a,a,a,a,a,a,a,a,a,a,a,a,a,a,a,a,a+)>") _ _ refl refl

limit23 : Limit23
limit23 = gave (codes "<!ELEMENT a (a,a,a,a,a,a,a,a,a,a,a,a,a,a,a,a,a,a,a,a,a,a,a,a,a,a,a,a,a,a,a,a,a,a,a,a,a,a,a,a,a,a,a,a,a,a,a,a,a,a,a,a,a,a,a,a,a,a,a,a,a,a,a,a,a,a,a,a,a,a,a,a,a,a,a,a,a,a,a,a,a,a,a,a,a,a,a,a,a,a,a,a,a,a,a,a,a,a,a,a,a,a,a,a,a,a,a,a,a,a,a,a,a,a,a,a,a,a,a,a,a,a,a,a,a,a,a,a)+>") _ _ refl refl

limit24 : Limit24
limit24 = gave (codes "<!ELEMENT a (a,a,a,a,a,a,a,a,a,a,a,a,a,a,a,a,a,a,a,a,a,a,a,a,a,a,a,a,a,a,a,a,a,a,a,a,a,a,a,a,a,a,a,a,a,a,a,a,a,a,a,a,a,a,a,a,a,a,a,a,a,a,a,a,a,a,a,a,a,a,a,a,a,a,a,a,a,a,a,a,a,a,a,a,a,a,a,a,a,a,a,a,a,a,a,a,a,a,a,a,a,a,a,a,a,a,a,a,a,a,a,a,a,a,a,a,a,a,a,a,a,a,a,a,a,a,a)+>") _ _ refl refl

pub limits : Limits
limits = (limit0, limit1, limit2, limit3, limit4, limit5, limit6, limit7, limit8, limit9, limit10, limit11, limit12, limit13, limit14, limit15, limit16, limit17, limit18, limit19, limit20, limit21, limit22, limit23, limit24)
