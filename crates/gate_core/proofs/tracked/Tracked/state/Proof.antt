-- `state` hands the same `&` on, at the type that has the same one field, and of which less is seen. Assumes `Logic`.
use mathlib.Core.Path.{◌≡◌, refl, ap}
use Prim.Native.Nat.{ℕ}
use mathlib.Core.List.{List, [], ◌∷◌}
use seplogic.Ra.Ura.{Ura}
use mir.Syntax.{Args, Body, Dict, Fn, named, a_type, dcons, dnil, seq, assign, place, rv_opd, copy, return}
use mir.MapTy.{inst_fn}
use mir.Val.{Val, vptr}
use base.Logic.{SProp, ent, via, fst∗}
use base.Fml.{Lft, Share, ftrue, flft, fsep}
use prog.Memory.{Memory}
use prog.Routine.{Routine}
use prog.Wp.{Env, Calls, Loops, WpFn, Tables}
use types.Logic.{Logic}
use contract.Lifetimes.{AllOutlive}
use contract.Monad.{Fun}
use contract.Running.{tables, tables_of}
use sound.WpLaws.{WpFn-mono}
use types.Kit.{‵, ◌⊛◌, at_ret, ◌$◌, ◌∵◌, !, qed, move, keep, drop, fsplit, fjoin, fpick, fpack, feq_i, suffices, frame, done}
use types.Run.{stop, addr, of_opd, first, blocks, exec, returns, enter}
use types.ByLocal.{alloc_all, pass_all, free_all, look_at, get, through, sets, sets_last, env}
use denote.Builtin.{RefOf}
use denote.Exit.{yes}
use denote.Opens.{unhide, hide}
use denote.Param.{bounded, copied, param}
use denote.RattleType.{RattleType, owns}
use denote.Ref.{Bor, ShrRef, shr_vals, shr_Tells}
use denote.Signature.{plain}
use denote.Steps.{nothing}
use denote.Triple.Clauses.{Clauses, Ended, closing}
use denote.Triple.Entry.{on_entry}
use denote.Triple.Spec.{Meets, triple_of}
use denote.Triple.Table.{entered}
use denote.Triple.Walked.{says, Stays, stay_dropped, walk_of, ends_at, walked, Goes-dropped, walk_Meets}
use Rattle.std.specs.declared.clone.Clone as Clone
use Rattle.std.specs.declared.hash.BuildHasher as BuildHasher
use Rattle.std.specs.declared.hash.Hasher as Hasher
use Rattle.gate_core.specs.Spans.{Span}
use Rattle.gate_core.specs.World.{World}
use Rattle.gate_core.specs.declared.state.State.TheInside as state_inside
use Rattle.gate_core.specs.contracts.state.State as State
use Rattle.gate_core.specs.contracts.state.State.TheInside as StateInside
use Rattle.gate_core.specs.contracts.tracked.Tracked as Tracked
use Rattle.gate_core.specs.contracts.tracked.Tracked.state as F
use Rattle.gate_core.specs.contracts.tracked.Tracked.state.Key.{name as #self}
use Rattle.gate_core.proofs.tracked.Tracked.state.Statement as stated
use Rattle.gate_core.proofs.tracked.Tracked.state.Code as code

abbrev rest : Body
rest = seq (assign (place 0 []) (rv_opd (copy (place 2 [])))) return

module _ (S Hr : RattleType) (g : BuildHasher.Ghosts S.Denot Hr.Denot) (d₁ : Dict) (gh : Hasher.Ghosts Hr.Denot) (d₂ : Dict) (gc : Clone.Ghosts S.Denot) (d₃ d₄ : Dict) where
  abbrev args : Args
  args = bounded (a_type ∷ a_type ∷ []) (S, (Hr, tt)) (dcons d₁ (dcons d₂ (dcons d₃ (dcons d₄ dnil))))

  abbrev fn' : Fn
  fn' = inst_fn args code.function

  abbrev From : RattleType
  From = Tracked.the_row (copied 0 S) (param 1 Hr) g gh

  abbrev To : RattleType
  To = State.the_row (copied 0 S) (param 1 Hr) g gh

  abbrev Inside : RattleType
  Inside = StateInside.the_row (copied 0 S) (param 1 Hr) g gh

  abbrev ended : Ended
  ended = F.ended S Hr g d₁ gh d₂ gc d₃ d₄

  abbrev stayed : Stays ended.signature.params ended.kept
  stayed = (stay_dropped (RefOf (0 ∷ []) tt (plain (λ _. From)) (λ _. tt)) yes, tt)

  -- the fields that a state of this value may have
  abbrev Fields : World → Type 0
  Fields w = (a : state_inside.Inside S.Denot Hr.Denot) × ((State.the_view (copied 0 S) (param 1 Hr) g gh a ≡ w) × Unit {0})

  module _ {M : Type 1} {𝓤 : Ura M} (𝓛 : Logic 𝓤) (at_mem : Memory → SProp 𝓤) (run : Routine → Fun 𝓤) where
    open 𝓛 use {H}

    abbrev held : Clauses 𝓤 ended
    held = F.clauses S Hr g d₁ gh d₂ gc d₃ d₄ 𝓛 at_mem run

    module _ (C : Calls 𝓤 H) (Λ : Loops 𝓤 H) (κ κS κH : Lft) (q qS qH : Share) (bd : AllOutlive 3 ended.signature.outlives (κ, (κS, (κH, tt)))) (b o : ℕ) (x : Span) where
      abbrev self : Bor Span
      self = record { ref_ptr = (b, o); now = x }

      abbrev bound : (walk_of 𝓛 ended stayed held).Ghost
      bound = (((κ, (κS, (κH, tt))), (q, (qS, (qH, tt))), bd, (self, tt), (shr_vals self, tt)), tt)

      abbrev Post : Val → SProp 𝓤
      Post = (walk_of 𝓛 ended stayed held).post bound

      walk : ent 𝓤 (on_entry 𝓛 ended.signature (κ, (κS, (κH, tt))) (q, (qS, (qH, tt))) (self, tt) (shr_vals self, tt)) (WpFn 𝓤 H C Λ fn' (vptr b o ∷ []) Post)
      walk =
          qed 𝓛 ((‵ (flft κ q) ⊛ ‵ (flft κS qS) ⊛ ‵ (flft κH qH) ⊛ ‵ ftrue) ∷ ‵ (owns (ShrRef (named 0) κ From ∷ []) (self, tt) (shr_vals self, tt)) ∷ []) ∵ enter ! C Λ fn' (vptr b o ∷ []) _ $
          alloc_all ! (λ l. pass_all ! refl ((tt, tt), tt) $
          let En : Env 𝓤 H = env fn'.locals l in
          first ! $ blocks ! $
          sets ! (addr ! (through ! refl (stop !))) refl (tt, tt) $
          sets ! (of_opd ! (get ! refl)) refl (tt, tt) $
          sets_last ! (addr ! (through ! refl (stop !))) refl (tt, tt) $
          exec ! C Λ En rest (at_ret En Post) $
          sets ! (of_opd ! (get ! refl)) refl (tt, tt) $
          move ! (1 ∷ []) $ fsplit ! $ fsplit ! $ drop ! $ unhide ! $ fpick ! (λ a.
          fpack ! (Fields x.world) (λ (c : Fields x.world). fsep (Inside.shr_at c.0 b o κ) ftrue) (record { parts = a.0.parts }, (ap (λ (s : Span). s.world) a.1.0, a.1.1)) $ hide ! $
          returns ! (look_at ! 0 refl) $ free_all ! refl $ keep ! (2 ∷ 0 ∷ []) $
          suffices ! _ (ends_at 𝓛 ended stayed held bound (vptr b o) (record { ref_ptr = (b, o); now = x.world }) (tt, tt) (tt, tt)) $ says ! refl $
          frame ! $ nothing ! $ nothing ! $ fjoin ! $ frame ! $
          feq_i ! (List Val) (vptr b o ∷ []) (vptr b o ∷ []) refl $ fjoin ! $ done !))

    meets : (𝓣 : Tables 𝓤 H) → Meets 𝓛 ended.signature (WpFn 𝓤 H 𝓣.C 𝓣.Λ fn') (closing 𝓛 ended held)
    meets 𝓣 =
        walk_Meets 𝓛 ended stayed (Goes-dropped 𝓛 3 (RefOf (0 ∷ []) tt (plain (λ _. From)) (λ _. tt)) yes (λ κs y f. refl), tt) held
        (WpFn 𝓤 H 𝓣.C 𝓣.Λ fn') (WpFn-mono 𝓤 H 𝓛.laws 𝓣 fn')
        (walked 𝓛 ended stayed held (WpFn 𝓤 H 𝓣.C 𝓣.Λ fn') (λ κs. (shr_vals, tt)) (λ κs. (shr_Tells (named 0) κs.0 From, tt))
        (λ κs qs bounds a u are. via 𝓤 _ (fst∗ 𝓤 _ ((held κs a).requires u))
        (walk 𝓣.C 𝓣.Λ κs.0 κs.1.0 κs.1.1.0 qs.0 qs.1.0 qs.1.1.0 bounds a.0.ref_ptr.0 a.0.ref_ptr.1 a.0.now)))

pub state_spec : {M : Type 1} → stated.statement M
unfolding tables_of
state_spec 𝓤 𝓛 𝓜 𝓡 wired S Hr LS LH copies g d₁ gh d₂ gc d₃ d₄ m₁ m₂ m₃ m₄ =
    let 𝓣 : Tables 𝓤 𝓛.H = tables_of 𝓤 𝓛.H 𝓜 (tables 𝓤 𝓛.H 𝓜 𝓡 𝓡.env) in
    entered 𝓤 𝓛.H (triple_of 𝓛 (ended S Hr g d₁ gh d₂ gc d₃ d₄).signature (F.spec S Hr g d₁ gh d₂ gc d₃ d₄ 𝓛 𝓜.mem 𝓡.returns)) 𝓣.C 𝓣.Λ (#self (args S Hr g d₁ gh d₂ gc d₃ d₄)) (fn' S Hr g d₁ gh d₂ gc d₃ d₄)
    (code.unfolded 𝓤 𝓛.H 𝓜 𝓡 wired (S, (Hr, tt)) d₁ d₂ d₃ d₄)
    (meets S Hr g d₁ gh d₂ gc d₃ d₄ 𝓛 𝓜.mem 𝓡.returns 𝓣)
