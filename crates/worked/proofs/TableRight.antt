-- Every line of the table is right, by one computed test and one law.
use Prim.Native.Nat.{ℕ}
use mathlib.Core.Path.{◌≡◌, refl, subst}
use mathlib.Core.Logic.{◌↔◌}
use mathlib.Core.Bool.{Bool, true, ◌&&◌}
use mathlib.Core.List.{List, [], ◌∷◌}
use native.Mathlib.Omega.{arith}
use borrow.Author.Tests.{leb-true}
use lib.Dec.{leb}
use Rattle.rules.specs.Judging.{each, is_fine}
use Rattle.rules.proofs.AndLaws.{and_true}
use Rattle.rules.proofs.JudgingLaws.{is_fine_lem}
use Rattle.scan.specs.Ascii.{bytes}
use Rattle.scan.specs.Pieces.{opening, pieces, first_at}
use Rattle.scan.specs.Numbers.{value_from, natural_of, negated, integer_of}
use Rattle.scan.specs.Fields as fields
use Rattle.scan.specs.Fields.{on_field, matched}
use Rattle.scan.specs.Line.{line_of}
use Rattle.dimacs.specs.Rules.{within}
use Rattle.dimacs.specs.P2p.{p2p_line, p2p_rules}
use Rattle.dimacs.specs.Judgement.{problem_judged, data_judged, judged, ended}
use Rattle.dimacs.specs.Texts.{next, on_judged, read_lines, read_text}
use Rattle.dimacs.specs.Reading.{read_p2p}
use Rattle.walks.specs.Rows.{network}
use Rattle.walks.specs.Through.{InS}
use Rattle.geometry.specs.Hull.{smaller, larger, taken}
use Rattle.masks.specs.Mask.{bit, lighted}
use Rattle.masks.specs.Panel.{modules_from}
use Rattle.settling.specs.Labels.{before, start_of, labelled, offered, marked}
use Rattle.settling.specs.Settle.{arc_step, relaxed, settle_of}
use Rattle.settling.specs.Nearest.{better, leader_of, nearest_of}
use Rattle.settling.specs.Run.{after_pick, run_of}
use Rattle.settling.specs.Trace.{fits, first_of, arc_fits, into_of, after_into, trace_of}
use Rattle.settling.specs.LengthsTo.{on_shortest}
use Rattle.judging.specs.Order.{arcs_judged, network_judged, searched_by, placed_by, shaped_by, search_judged, build_judged, check_judged, update_judged, why_judged, day_judged}
use Rattle.judging.proofs.StageLaws.{network_fine}
use Rattle.drawing.specs.Leads.{leads_at, lengths_to}
use Rattle.drawing.specs.Gathered.{add_if, gathered}
use Rattle.drawing.specs.Missed.{misses_node}
use Rattle.reasons.specs.Using.{Among}
use Rattle.reasons.specs.Steps.{is_among}
use Rattle.reasons.proofs.Computed.{reason_by, reason_of, judged_reply, reply_of, reply_says}
use Rattle.daylist.specs.Replies.{with_route, with_none, total}
use Rattle.worked.specs.Plans.{hall, far_hall, reweighted_hall, closed_hall, cut_hall, shut_hall, one_way, zeros, behind, west, triangle, detour, closed_triangle, bridge, lifted_bridge, hall_boxes, led_boxes, closed_boxes, raised_boxes, wide_boxes, flat_boxes, full_boxes, tree_boxes, triangle_boxes, mended_boxes, hall_masks, mixed_masks, route, answers, panel}
use Rattle.worked.proofs.Computed.{or_told, answer_of, search_told, replies_told, day_told, drawn_to, drawn_if, build_told, update_told, lowest_node, or_arc, lowest_arc, check_told, lamps_told, members_from, members_of}
use Rattle.worked.proofs.ComputedLaws.{search_told_lem, day_told_lem, build_told_lem, check_told_lem, update_told_lem, lamps_told_lem}
use Rattle.worked.proofs.MembersLaws.{members_are}
use Rattle.worked.proofs.Tests.{same_numbers, same_numbers_lem, same_told, same_told_lem, walks, walks_by}
use Rattle.worked.specs.Table.{Told, lent, Call, search, build, check, update, why, day, lamps, Says, Case, set, walk, call, Right, Each, no_line, line, table, TableRight}

abbrev pub told_of : Call → Told
told_of (search p by s t) = search_told by.asked p.nodes p.arcs p.rows (lent p by) s t route
told_of (build p by) = build_told p.nodes p.arcs p.rows by.asked (lent p by)
told_of (check p by) = check_told by.asked p.nodes p.arcs p.rows (lent p by)
told_of (update p boxes arc weight closure) = update_told p.nodes p.arcs p.rows p.x p.y boxes arc weight closure
told_of (why p s t arc) = record { reply = reply_of p.nodes p.arcs p.rows s t arc; numbers = []; closures = []; boxes = [] }
told_of (day p boxes text) = day_told p.nodes p.arcs p.rows p.x p.y boxes answers (read_p2p text p.nodes answers)
told_of (lamps mask) = lamps_told mask panel

says : (c : Call) → Says c (told_of c)
says (search p by s t) = search_told_lem by.asked p.nodes p.arcs p.rows (lent p by) s t route
says (build p by) = build_told_lem by.asked p.nodes p.arcs p.rows (lent p by)
says (check p by) = check_told_lem by.asked p.nodes p.arcs p.rows (lent p by)
says (update p boxes arc weight closure) = update_told_lem p.nodes p.arcs p.rows p.x p.y boxes arc weight closure
says (why p s t arc) = reply_says p.nodes p.arcs p.rows s t arc
says (day p boxes text) = day_told_lem p.nodes p.arcs p.rows p.x p.y boxes text answers
says (lamps mask) = lamps_told_lem mask panel (omega arith)

unfoldable pub passes : Case → Bool
passes (set p e nodes) =
    is_fine (network_judged p.nodes p.arcs p.rows true) && leb 1 e && leb e p.arcs && same_numbers (members_of p.nodes p.arcs p.rows e) nodes
passes (walk p s t l arcs) = walks p.arcs p.rows s t l arcs
passes (call c told) = same_told (told_of c) told

passes_right : (c : Case) → passes c ≡ true → Right c
unfolding passes
passes_right (set p e nodes) h =
    let n = p.nodes in
    let m = p.arcs in
    let R = p.rows in
    let a = and_true (is_fine (network_judged n m R true) && leb 1 e && leb e m) (same_numbers (members_of n m R e) nodes) h in
    let b = and_true (is_fine (network_judged n m R true) && leb 1 e) (leb e m) a.0 in
    let c = and_true (is_fine (network_judged n m R true)) (leb 1 e) b.0 in
    let sound = (network_fine n m R true (is_fine_lem _ c.0)).0 in
    subst (λ (vs : List ℕ). (t : ℕ) → InS (network m R) e t ↔ Among t vs) (same_numbers_lem (members_of n m R e) nodes a.1)
    (members_are sound e (leb-true 1 e c.1) (leb-true e m b.1))
passes_right (walk p s t l arcs) h = walks_by p.arcs p.rows s t l arcs h
passes_right (call c told) h = subst (Says c) (same_told_lem (told_of c) told h) (says c)

unfoldable pub all_pass : List Case → Bool
all_pass [] = true
all_pass (c ∷ cs) = passes c && all_pass cs

each_right : (cs : List Case) → all_pass cs ≡ true → Each Right cs
unfolding all_pass
each_right [] h = no_line
each_right (c ∷ cs) h = let p = and_true (passes c) (all_pass cs) h in line (passes_right c p.0) (each_right cs p.1)

pub table_right : TableRight
unfolding
    table all_pass passes hall far_hall reweighted_hall closed_hall cut_hall shut_hall one_way zeros behind west triangle detour closed_triangle bridge lifted_bridge
    hall_boxes led_boxes closed_boxes raised_boxes wide_boxes flat_boxes full_boxes tree_boxes triangle_boxes mended_boxes hall_masks mixed_masks
    or_told answer_of search_told drawn_to drawn_if build_told update_told lowest_node or_arc lowest_arc check_told members_from
    arcs_judged network_judged searched_by placed_by shaped_by search_judged build_judged check_judged update_judged why_judged each smaller larger taken
    before start_of labelled offered marked arc_step relaxed settle_of better leader_of nearest_of after_pick run_of
    fits first_of arc_fits into_of after_into trace_of on_shortest leads_at lengths_to add_if gathered misses_node bit lighted modules_from
    is_among reason_by reason_of judged_reply reply_of
    bytes opening pieces first_at value_from natural_of negated integer_of fields.before fields.taken on_field matched line_of
    within p2p_line p2p_rules problem_judged data_judged judged ended next on_judged read_lines read_text read_p2p
    answers day_judged with_route with_none total replies_told day_told
table_right = each_right table refl
