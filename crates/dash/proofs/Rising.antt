-- Beyond the request: what the dash shows of a signal rises strictly with the raw count, so no two counts show alike. Assumes nothing.
use mathlib.Core.Path.{◌≡◌, subst⁻¹}
use Prim.Native.Nat.{ℕ, ◌<◌}
use lib.Dec.{T}
use lib.Ieee.{Float, lt}
use Rattle.std.specs.Prelude.{Ok}
use Rattle.catalogue.specs.declared.Raw.{Raw}
use Rattle.doubles.specs.Doubles.{in_units_spec}
use Rattle.doubles.proofs.Rising.{readings_rise}
use Rattle.dash.specs.declared.Dash.TheVariants.{Value}
use Rattle.dash.specs.Answer.{dash_of}
use Rattle.dash.proofs.Right.{dash_right}

pub dash_rises : (number : ℕ) (raw raw' : Raw) (x x' : Float) → dash_of number raw ≡ Ok (Value x) → dash_of number raw' ≡ Ok (Value x') → raw.0 < raw'.0 → T (lt x x')
unfolding in_units_spec
dash_rises number raw raw' x x' e e' h =
    let p = (dash_right number raw).reading x e in
    let q = (dash_right number raw').reading x' e' in
    subst⁻¹ (λ (y : Float). T (lt y x')) p.divided
    (subst⁻¹ (λ (y : Float). T (lt (in_units_spec p.thousandths) y)) q.divided
    (readings_rise number raw raw' p.thousandths q.thousandths p.read q.read h))
