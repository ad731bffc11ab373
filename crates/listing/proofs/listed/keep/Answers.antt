use Rattle.std.proofs.Common.{◌≡◌, refl, ap, is_ok, take}
use Rattle.std.proofs.ResultArms.{chosen}
use Rattle.listing.proofs.listed.keep.Goals as goal

pub returns : goal.returns
returns c =
    let copied : c.in_ok-parts.parts.items ≡ take c.args.declared.length c.args.sheet.now = c.in_ok-parts.ensures.items_if_clones_equal (λ x y e. e) in
    let pushed = chosen _ _ _ _ c.push.ensures.items (ap is_ok c.in_ok-push.was) in (
      record { name = c.args.declared.name; symbol = c.args.declared.symbol; place = c.args.declared.place; parts = c.in_ok-parts.parts },
      record { name = refl; symbol = refl; place = refl; parts = copied },
      pushed,
    )
