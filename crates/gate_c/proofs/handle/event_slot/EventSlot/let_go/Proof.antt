-- `let_go` lets go of a slot that owns no block.
use mathlib.Core.Path.{refl, sym, subst}
use mathlib.Core.List.{List, [], ◌∷◌, ◌++◌}
use Rattle.std.specs.Prelude.{None}
use seplogic.Ra.Ura.{Ura}
use mir.Val.{Val, vunit}
use base.Logic.{SProp, ent, emp, id⊢}
use base.Fml.{ftrue, fsep}
use prog.Memory.{Memory}
use prog.Routine.{Routine}
use prog.Wp.{WpFn, Tables}
use types.Logic.{Logic}
use contract.Monad.{Fun, fact}
use contract.Running.{tables, tables_of}
use sound.WpLaws.{WpFn-mono}
use types.Kit.{Item, ‵, raw, ◌⊛◌, ◌$◌, ◌∵◌, !, qed, by, move, drop, use1, join, split, fsplit, fjoin, fpack, feq_i, suffices, done}
use types.Run.{stop, fld, no_more, and_then, of_opd, unit_lit, returns, enter}
use types.ByLocal.{alloc_all, pass_all, free_all, look_at, get, get_in, sets}
use denote.Exit.{yes}
use denote.Signature.{type_at, plain, Slot}
use denote.Steps.{nothing, heard}
use denote.Triple.Spec.{triple_of}
use denote.Triple.Table.{entered}
use denote.Triple.Walked.{says, Stays, stay_dropped, walk_of, ends_at, Goes-dropped, walk_Meets}
use Rattle.std.proofs.alloc.Calls.{Al, handle_tells}
use Rattle.gate_c.proofs.handle.event_slot.EventSlot.TheLaws as slot
use mir.Syntax.{impl, tnil, dnil}
use Rattle.std.proofs.Common.{◌≡◌}
use Rattle.gate_c.specs.contracts.handle.event_slot.EventSlot as TheSlot
use Rattle.gate_c.specs.contracts.handle.event_slot.EventSlot.let_go as F
use Rattle.gate_c.specs.contracts.handle.event_slot.EventSlot.let_go.Key.{name as #self}
use Rattle.gate_c.proofs.handle.event_slot.EventSlot.let_go.Statement as stated
use Rattle.gate_c.proofs.handle.event_slot.EventSlot.let_go.Code as code

abbrev From : Slot 0
From = plain (λ _. TheSlot.the_row)

abbrev as_handle : Al
as_handle = record { row = TheSlot.the_row; laws = slot.the_row_laws; g = record { dealloc_token = λ a τ p. ftrue }; d = impl [] tnil dnil; drops = impl [] tnil dnil }

abbrev stayed : Stays (F.ended).signature.params (F.ended).kept
stayed = (stay_dropped From yes, tt)

module _ {M : Type 1} {𝓤 : Ura M} (𝓛 : Logic 𝓤) (at_mem : Memory → SProp 𝓤) (run : Routine → Fun 𝓤) (𝓣 : Tables 𝓤 𝓛.H) where
  open 𝓛 use {H}

  walk : (z : (walk_of 𝓛 F.ended stayed (F.clauses 𝓛 at_mem run)).Ghost)
      → ent 𝓤 ((walk_of 𝓛 F.ended stayed (F.clauses 𝓛 at_mem run)).pre z) (WpFn 𝓤 H 𝓣.C 𝓣.Λ code.function (z.0.4.0 ++ []) ((walk_of 𝓛 F.ended stayed (F.clauses 𝓛 at_mem run)).post z))
  walk z =
      let Post = (walk_of 𝓛 F.ended stayed (F.clauses 𝓛 at_mem run)).post z in
      let d = z.0.3.0 in
      qed 𝓛 ((‵ ftrue ⊛ ‵ (fsep (TheSlot.the_row.own_val d z.0.4.0) ftrue)) ∷ raw (fact 𝓤 (d.reading ≡ None)) ∷ []) ∵ move ! (1 ∷ []) $ heard ! (d.reading ≡ None) (λ none. split ! $ drop ! $ fsplit ! $
      handle_tells as_handle ! d z.0.4.0 (λ h ws fits. drop ! $ drop ! $
      by ! (subst (λ (us : List Val). ent 𝓤 (types.Kit.⋆ 𝓛 []) (WpFn 𝓤 H 𝓣.C 𝓣.Λ code.function (us ++ []) Post)) (sym ws)
      (qed 𝓛 [] ∵ enter ! 𝓣.C 𝓣.Λ code.function (h ∷ []) _ $ alloc_all ! (λ ls. pass_all ! refl (fits, tt) $
      sets ! (of_opd ! (unit_lit !)) refl (tt, tt) $ returns ! (look_at ! 0 refl) $ free_all ! refl $
      suffices ! _ (ends_at 𝓛 F.ended stayed (F.clauses 𝓛 at_mem run) z vunit tt (tt, tt) (tt, tt)) $ says ! none $
      feq_i ! (List Val) (vunit ∷ []) (vunit ∷ []) refl $ nothing ! $ nothing ! $ fjoin ! $ join ! $ nothing ! $ join ! $ done !)))))

pub let_go_spec : {M : Type 1} → stated.statement M
unfolding tables_of
let_go_spec 𝓤 𝓛 𝓜 𝓡 wired =
    let 𝓣 : Tables 𝓤 𝓛.H = tables_of 𝓤 𝓛.H 𝓜 (tables 𝓤 𝓛.H 𝓜 𝓡 𝓡.env) in
    entered 𝓤 𝓛.H (triple_of 𝓛 F.signature (F.spec 𝓛 𝓜.mem 𝓡.returns)) 𝓣.C 𝓣.Λ #self code.function (code.unfolded 𝓤 𝓛.H 𝓜 𝓡 wired)
    (walk_Meets 𝓛 F.ended stayed (Goes-dropped 𝓛 0 From yes (λ κs x f. refl), tt) (F.clauses 𝓛 𝓜.mem 𝓡.returns) (WpFn 𝓤 𝓛.H 𝓣.C 𝓣.Λ code.function) (WpFn-mono 𝓤 𝓛.H 𝓛.laws 𝓣 code.function)
    (walk 𝓛 𝓜.mem 𝓡.returns 𝓣))
