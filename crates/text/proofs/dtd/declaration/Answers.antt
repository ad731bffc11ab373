use Rattle.std.proofs.Common.{[]}
use Rattle.std.proofs.lemmas.Result.{err_from_is_err_and}
use Rattle.text.proofs.Declarations.{no_more, opens_one, symbol_kept}
use Rattle.text.proofs.ElementLemmas.{grow_on}
use Rattle.text.proofs.dtd.declaration.Goals as goal

pub returns-in_err-begin-clause-read : goal.returns-in_err-begin-clause-read
returns-in_err-begin-clause-read c ks bytes ds h r blank =
    let p = err_from_is_err_and c.from_residual.result c.from_residual.ensures.1 in
    rw (p.1, p.2) (c.in_err-begin.ensures.begun ks bytes ds h r)

pub returns-then-not-branch-clause-read : goal.returns-then-not-branch-clause-read
returns-then-not-branch-clause-read c ks bytes ds h r blank = no_more ks bytes ds _ _ _ c.args.made.now c.if-not-branch.true (c.in_ok-begin.ensures.begun ks bytes ds h r)

pub returns-in_err-element-clause-read : goal.returns-in_err-element-clause-read
returns-in_err-element-clause-read c ks bytes ds h r blank =
    let p = err_from_is_err_and c.from_residual-in_err-element.result c.from_residual-in_err-element.ensures.1 in
    rw (p.1, p.2) (c.in_err-element.ensures.titled ks bytes ds (opens_one ks bytes ds _ _ _ c.if-not-branch.false (c.in_ok-begin.ensures.begun ks bytes ds h r)))

pub returns-in_err-element-clause-grow : goal.returns-in_err-element-clause-grow
returns-in_err-element-clause-grow c = grow_on c.args.elements.now c.begin.new.elements c.title.new.elements c.begin.ensures.grow c.title.ensures.grow

pub returns-in_err-content-clause-read : goal.returns-in_err-content-clause-read
returns-in_err-content-clause-read c ks bytes ds h r blank =
    let p = err_from_is_err_and c.from_residual-in_err-content.result c.from_residual-in_err-content.ensures.1 in
    let opened = opens_one ks bytes ds _ _ _ c.if-not-branch.false (c.in_ok-begin.ensures.begun ks bytes ds h r) in
    let titled = c.in_ok-element.ensures.titled ks bytes ds opened in
    rw (p.1, p.2) (c.in_err-content.ensures.ended ks bytes ds c.in_ok-element.element.name.now titled.0 blank)

pub returns-in_err-content-clause-grow : goal.returns-in_err-content-clause-grow
returns-in_err-content-clause-grow c =
    grow_on c.args.elements.now c.begin.new.elements c.content.new.elements c.begin.ensures.grow
    (grow_on c.begin.new.elements c.title.new.elements c.content.new.elements c.title.ensures.grow c.content.ensures.grow)

pub returns-in_err-end-clause-read : goal.returns-in_err-end-clause-read
returns-in_err-end-clause-read c ks bytes ds h r blank =
    let p = err_from_is_err_and c.from_residual-in_err-end.result c.from_residual-in_err-end.ensures.1 in
    let opened = opens_one ks bytes ds _ _ _ c.if-not-branch.false (c.in_ok-begin.ensures.begun ks bytes ds h r) in
    let titled = c.in_ok-element.ensures.titled ks bytes ds opened in
    let (k, σ, read, closes, parts) = c.in_ok-content.ensures.ended ks bytes ds c.in_ok-element.element.name.now titled.0 blank in
    rw (p.1, p.2) (c.in_err-end.ensures ks bytes ds c.in_ok-element.element.name.now k σ c.content.new.elements read closes parts)

pub returns-in_err-end-clause-grow : goal.returns-in_err-end-clause-grow
returns-in_err-end-clause-grow c =
    grow_on c.args.elements.now c.begin.new.elements c.content.new.elements c.begin.ensures.grow
    (grow_on c.begin.new.elements c.title.new.elements c.content.new.elements c.title.ensures.grow c.content.ensures.grow)

pub returns-clause-read : goal.returns-clause-read
returns-clause-read c ks bytes ds h r blank =
    let n = c.in_ok-element.element.name.now in
    let opened = opens_one ks bytes ds _ _ _ c.if-not-branch.false (c.in_ok-begin.ensures.begun ks bytes ds h r) in
    let titled = c.in_ok-element.ensures.titled ks bytes ds opened in
    let (k, σ, read, closes, parts) = c.in_ok-content.ensures.ended ks bytes ds n titled.0 blank in
    let (closed, few) = c.in_ok-end.ensures ks bytes ds n k σ c.content.new.elements read closes parts in
    (k, closed, symbol_kept n _ c.title.new.elements c.content.new.elements titled.1 c.content.ensures.grow, titled.2, parts [], few c.content.new.elements.names)

pub returns-clause-grow : goal.returns-clause-grow
returns-clause-grow c =
    grow_on c.args.elements.now c.begin.new.elements c.content.new.elements c.begin.ensures.grow
    (grow_on c.begin.new.elements c.title.new.elements c.content.new.elements c.title.ensures.grow c.content.ensures.grow)
