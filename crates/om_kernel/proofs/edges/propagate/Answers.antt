use Rattle.std.proofs.Common.{refl}
use Rattle.om_kernel.specs.declared.waves.Wave.TheVariants.{Scalar, Row, Column, Vector}
use Rattle.om_kernel.proofs.EdgeSolved.{edge-told}
use Rattle.om_kernel.proofs.edges.propagate.Goals as goal

pub returns-in-Scalar-clause-value : goal.returns-in-Scalar-clause-value
returns-in-Scalar-clause-value g c =
    let a = c.args in
    let r = a.ring.now in
    edge-told (g.R.Ring.element r) (g.R.Ring.ops r) (g.met.R.Ring.known r) (g.met.R.Ring.laws r)
    a.mass a.inverse_mass a.factor a.momentum.now a.wave.now _ (Scalar c.mul.result) a.massive _ c.requires c.in-Scalar.is refl
    (cc (c.mul.ensures.value, c.mul-turned.ensures.value))

pub returns-in-Row-clause-value : goal.returns-in-Row-clause-value
returns-in-Row-clause-value g c =
    let a = c.args in
    let r = a.ring.now in
    edge-told (g.R.Ring.element r) (g.R.Ring.ops r) (g.met.R.Ring.known r) (g.met.R.Ring.laws r)
    a.mass a.inverse_mass a.factor a.momentum.now a.wave.now _ (Row c.propagate_spinor.result) a.massive _ c.requires c.in-Row.is refl
    (cc (c.propagate_spinor.ensures.value, c.row_momentum-against.ensures.value))

pub returns-in-Column-clause-value : goal.returns-in-Column-clause-value
returns-in-Column-clause-value g c =
    let a = c.args in
    let r = a.ring.now in
    edge-told (g.R.Ring.element r) (g.R.Ring.ops r) (g.met.R.Ring.known r) (g.met.R.Ring.laws r)
    a.mass a.inverse_mass a.factor a.momentum.now a.wave.now _ (Column c.propagate_spinor-in-Column.result) a.massive _ c.requires c.in-Column.is refl
    (cc c.propagate_spinor-in-Column.ensures.value)

pub returns-in-Vector-clause-value : goal.returns-in-Vector-clause-value
returns-in-Vector-clause-value g c =
    let a = c.args in
    let r = a.ring.now in
    edge-told (g.R.Ring.element r) (g.R.Ring.ops r) (g.met.R.Ring.known r) (g.met.R.Ring.laws r)
    a.mass a.inverse_mass a.factor a.momentum.now a.wave.now _ (Vector c.propagate_massive.result) a.massive _ c.requires c.in-Vector.is c.if-massive.true
    (cc c.propagate_massive.ensures.value)

pub returns-in-Vector-2-clause-value : goal.returns-in-Vector-2-clause-value
returns-in-Vector-2-clause-value g c =
    let a = c.args in
    let r = a.ring.now in
    edge-told (g.R.Ring.element r) (g.R.Ring.ops r) (g.met.R.Ring.known r) (g.met.R.Ring.laws r)
    a.mass a.inverse_mass a.factor a.momentum.now a.wave.now _ (Vector c.propagate_massless.result) a.massive _ c.requires c.in-Vector-2.is c.if-massive.false
    (cc c.propagate_massless.ensures.value)
