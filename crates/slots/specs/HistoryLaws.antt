-- Proofs of the theorems about slots: of any graph of the calls, then of every history, which a graph in hand always is.
use Rattle.std.specs.Prelude.{◌≡◌, refl, Bool, true, false, List, [], ◌∷◌, ◌++◌, ℕ, leb, length, Result, Ok, Err, Some}
use Rattle.std.proofs.Common.{sym, ◌∙◌, ap, subst, leb-true, leb-false}
use Rattle.port_tables.specs.Lists.{Member}
use Rattle.portgraph.specs.Lookups.{port_link}
use Rattle.port_tables.specs.Entries.{port#}
use Rattle.portgraph.specs.Model as model
use Rattle.portgraph.specs.Model.{Model, slot_of, to, Wf}
use Rattle.portgraph.specs.GoodSlots.{slots_apart, zero_is_not_one}
use Rattle.portgraph.specs.PlaceLaws.{port_link_to}
use Rattle.port_tables.specs.declared.direction.Direction.{Direction}
use Rattle.port_tables.specs.declared.index.PortIndex.{PortIndex}
use Rattle.portgraph.specs.declared.portgraph.PortGraph.{PortGraph}
use Rattle.multiportgraph.specs.Graph.{empty_graph}
use Rattle.multiportgraph.specs.Reading.{is_hidden, is_split, copy_side, seen}
use Rattle.multi_tables.specs.Forms.{visible}
use Rattle.multiportgraph.specs.WellFormed.{Fine, MultiWf, copy_place}
use Rattle.multiportgraph.specs.LinkCutLaws.{fine_empty}
use Rattle.multiportgraph.specs.Ends.{block_seen, seen_block, split_has_copy, one_copy, copy_valid, port_of_lem, main_seen}
use Rattle.multiportgraph.specs.Space.{Room}
use Rattle.port_tables.specs.Listing.{member_map, map_member}
use Rattle.multiportgraph.specs.declared.multiportgraph.MultiPortGraph.{MultiPortGraph}
use Rattle.port_tables.specs.declared.release.Release.{Release}
use Rattle.theorems.specs.Book.{Call, empty_book}
use Rattle.theorems.specs.History.{State, step, run, run_from_under, run_under}
use Rattle.theorems.proofs.CallLaws.{run_kept, step_kept}
use Rattle.theorems.specs.Runs.{run_next, run_append}
use Rattle.sheets.specs.Sheets.{link_sheet, sheet_entries}
use Rattle.sheets.specs.SheetHistory.{links_of}
use Rattle.sheets.specs.Theorems.{sheet_is_links, too_long_changes_nothing}
use Rattle.sheets.specs.declared.sheet.SheetEntry.{SheetEntry}
use Rattle.files.specs.Layout.{unbytes}
use Rattle.files.specs.Loading.{build_of, load_answer, load_graph}
use Rattle.files.specs.LoadTheorems.{load_is_history, refused_load_is_empty}
use Rattle.files.specs.declared.load.LoadError.{LoadError}
use Rattle.slots.specs.Blocks.{Holder, by_node, free, slot_block, blocks_of, slot_list}
use Rattle.slots.specs.SlotClaims.{Cut, cut_of, cuts_of, SlotsAccounted, SlotsListed, OneForOne, HangsOn, AsksOnly, NeverForPorts, FreedSince, empty_room, works_along}
use Rattle.slots.specs.SlotHistory.{Item, one_call, whole_sheet, one_load, after_item, after_items, in_hand, after_calls}
use Rattle.multiportgraph.specs.CallSteps.{lower_wf}
use Rattle.slots.specs.TileLaws.{tiles_cuts, cuts_go_on}
use Rattle.slots.specs.BlockLaws.{slots_accounted, slots_listed, in_blocks}
use Rattle.slots.specs.KeptLaws.{KeepsBlocks, LeadsOn, leads_same, leads_then}
use Rattle.slots.specs.CallKeeps.{step_leads}
use Rattle.slots.specs.FreedLaws.{never_for_ports, along, freed_is_free}

-- Any graph of the calls.

pub accounted : (m : MultiPortGraph) → MultiWf m → SlotsAccounted m.graph
accounted m w = slots_accounted w.fine.good w.fine.holds

pub listed : (m : MultiPortGraph) → MultiWf m → SlotsListed m.graph
listed m w = slots_listed w.fine.good w.fine.holds

module _ {m : MultiPortGraph} {M : Model} (f : Fine m M) where
  hangs : (c : ℕ) (x : model.InnerPlace) → is_hidden m c ≡ true → M.join (copy_place m c) ≡ to x → HangsOn m c (slot_of M.node x)
  hangs c x h j =
      ap (port_link m.graph) (port_of_lem f c (copy_side m c) 0 (copy_valid f c h)) ∙ port_link_to f.good f.holds (copy_place m c) x (copy_valid f c h) j

  hangs_one : (c p q : ℕ) → HangsOn m c p → HangsOn m c q → p ≡ q
  hangs_one c p q a b =
      let e : Ok (Some (port# p)) ≡ Ok (Some (port# q)) = sym a ∙ b in
      let i : port# p ≡ port# q = cc in
      ap (λ (v : PortIndex). v.0) i

  one_for_one_in : OneForOne m
  one_for_one_in =
      record {
        hidden_of = λ p b t. hidden_of_lem p b.0 b.1 b.2 t;
        split_of = λ c h.
            let k = f.copy c h in
            let s = main_seen f c k.main h k.joined in (
              slot_of M.node k.main,
              (k.main.node, k.main.side, seen_block f k.main s),
              f.main_marked c k.main h k.joined,
              hangs c k.main h k.joined,
              (λ q a. hangs_one c q (slot_of M.node k.main) a (hangs c k.main h k.joined)),
            );
      }
    where
      hidden_of_lem : (p n : ℕ) (d : Direction) → seen m p ≡ visible n d → is_split m p ≡ true →
          (c : ℕ) × (is_hidden m c ≡ true) × HangsOn m c p × ((e : ℕ) → is_hidden m e ≡ true → HangsOn m e p → e ≡ c)
      hidden_of_lem p n d e t =
          let b = block_seen f p n d e in
          let k = split_has_copy f b.place b.is_seen (ap (is_split m) b.slot ∙ t) in (
            k.copy,
            k.is_copy,
            subst (HangsOn m k.copy) b.slot (hangs k.copy b.place k.is_copy k.from),
            (λ i h a.
                let y = f.copy i h in
                let s : slot_of M.node y.main ≡ slot_of M.node b.place = hangs_one i (slot_of M.node y.main) p (hangs i y.main h y.joined) a ∙ sym b.slot in
                let q : y.main ≡ b.place = slots_apart f.good y.main b.place (main_seen f i y.main h y.joined).0 b.is_seen.0 s in
                one_copy f i k.copy b.place (y.joined ∙ ap to q) k.from),
          )

pub one_for_one : (m : MultiPortGraph) → MultiWf m → OneForOne m
one_for_one m w = one_for_one_in w.fine

-- Blocks are kept, so the list of cuts goes on where it ended.
cuts_go : (g g' : PortGraph) → SlotsListed g → SlotsListed g' → KeepsBlocks g g' → (more : List Cut) × (cuts_of g' ≡ cuts_of g ++ more)
cuts_go g g' s t keeps =
    cuts_go_on 0 g.port_len g'.port_len (cuts_of g) (cuts_of g') (tiles_cuts 0 g.port_len (slot_list g) s.tiles) (tiles_cuts 0 g'.port_len (slot_list g') t.tiles)
    (λ c i.
    let b = member_map cut_of c (slot_list g) i in
    let k = keeps b.0 (s.only b.0 b.1) in
    subst (λ (x : Cut). Member x (cuts_of g')) (sym b.2) (map_member cut_of (slot_block b.0.first b.0.size k.0) (slot_list g') (t.there _ k.1)))

calls_lead : (l : List Call) (m : MultiPortGraph) → MultiWf m → LeadsOn m.graph (after_calls m l).graph
unfolding after_calls
calls_lead [] m w = leads_same m.graph
calls_lead (c ∷ l) m w = leads_then (step_leads w.fine c) (calls_lead l (step m c).graph (step_kept m c w))

calls_kept : (l : List Call) (m : MultiPortGraph) → MultiWf m → MultiWf (after_calls m l)
unfolding after_calls
calls_kept [] m w = w
calls_kept (c ∷ l) m w = calls_kept l (step m c).graph (step_kept m c w)

pub blocks_go_on : (m : MultiPortGraph) → MultiWf m → (l : List Call) → (more : List Cut) × (cuts_of (after_calls m l).graph ≡ cuts_of m.graph ++ more)
blocks_go_on m w l = cuts_go m.graph (after_calls m l).graph (listed m w) (listed (after_calls m l) (calls_kept l m w)) (calls_lead l m w (lower_wf m w)).1

-- A block that is listed as free is found; and one that no node holds any more is.

pub free_found : (m : MultiPortGraph) → MultiWf m → (first size : ℕ) → Member (slot_block first size free) (blocks_of m.graph) → (c : Call) → AsksOnly m c size → NeverForPorts m c
free_found m w first size i c = never_for_ports w.fine c first size (in_blocks w.fine.good w.fine.holds (slot_block first size free) i)

pub unheld_found : (m : MultiPortGraph) → MultiWf m → (l : List Call) (first size : ℕ) (h : Holder) → Member (slot_block first size h) (blocks_of m.graph) →
    ((n : ℕ) → Member (slot_block first size (by_node n)) (blocks_of (after_calls m l).graph) → ⊥) → (c : Call) → AsksOnly (after_calls m l) c size → NeverForPorts (after_calls m l) c
unheld_found m w l first size h i none c only =
    let k = (calls_lead l m w (lower_wf m w)).1 (slot_block first size h) i in
    go k.0 k.1
  where
    go : (h : Holder) → Member (slot_block first size h) (blocks_of (after_calls m l).graph) → NeverForPorts (after_calls m l) c
    go (by_node n) j = absurd (none n j)
    go free j = free_found (after_calls m l) (calls_kept l m w) first size j c only

-- Every history.

pub freed_found : (release : Release) (calls : List Call) (first size : ℕ) → FreedSince first size empty_room (works_along (empty_graph release) calls) →
    (c : Call) → AsksOnly (run release calls).graph c size → NeverForPorts (run release calls).graph c
unfolding run_under
freed_found release calls first size freed c only =
    let r = along (fine_empty release) empty_book calls in
    never_for_ports r.1 c first size (subst (λ (x : Room). Member first (x.free_blocks size)) (sym r.2) (freed_is_free freed)) only

-- The graph in hand is one of a history of calls.

abbrev Comes : MultiPortGraph → Type 0
Comes m = (release : Release) × (calls : List Call) × (m ≡ (run release calls).graph)

comes_sheet : (m : MultiPortGraph) (es : List SheetEntry) → Comes m → Comes (link_sheet m es).graph
comes_sheet m es k = go (leb (length es) sheet_entries) refl
  where
    go : (b : Bool) → leb (length es) sheet_entries ≡ b → Comes (link_sheet m es).graph
    go true e =
        let s : State = run k.0 k.1 in
        let is = sheet_is_links s es (leb-true (length es) sheet_entries e) in (
          k.0,
          k.1 ++ links_of es,
          ap (λ (x : MultiPortGraph). (link_sheet x es).graph) k.2 ∙ (ap (λ (x : State). x.graph) is ∙ ap (λ (x : State). x.graph) (sym (run_append k.0 k.1 (links_of es)))),
        )
    go false e = (k.0, k.1, (too_long_changes_nothing m es (leb-false (length es) sheet_entries e)).0 ∙ k.2)

comes_load : (release : Release) (bytes : List ℕ) → Comes (load_graph release bytes)
unfolding run_under run_from_under
comes_load release bytes = go (load_answer release bytes) refl
  where
    refused : (load_answer release bytes ≡ Ok tt → ⊥) → Comes (load_graph release bytes)
    refused n = (release, [], refused_load_is_empty release bytes n)

    go : (a : Result (Unit {0}) LoadError) → load_answer release bytes ≡ a → Comes (load_graph release bytes)
    go (Ok _) e = (release, build_of (unbytes bytes), (load_is_history release bytes e).0)
    go (Err _) e = refused (λ q. zero_is_not_one (cc))

comes_item : (m : MultiPortGraph) (i : Item) → Comes m → Comes (after_item m i)
comes_item m (one_call c) k =
    (k.0, k.1 ++ (c ∷ []), ap (λ (x : MultiPortGraph). (step x c).graph) k.2 ∙ ap (λ (s : State). s.graph) (sym (run_next k.0 k.1 c)))
comes_item m (whole_sheet es) k = comes_sheet m es k
comes_item m (one_load release bytes) k = comes_load release bytes

comes_items : (items : List Item) (m : MultiPortGraph) → Comes m → Comes (after_items m items)
unfolding after_items
comes_items [] m k = k
comes_items (i ∷ items) m k = comes_items items (after_item m i) (comes_item m i k)

pub in_hand_comes : (release : Release) (items : List Item) → (r : Release) × (calls : List Call) × (in_hand release items ≡ (run r calls).graph)
unfolding in_hand run_under run_from_under
in_hand_comes release items = comes_items items (empty_graph release) (release, [], refl)

pub in_hand_lem : (P : MultiPortGraph → Type 0) → ((release : Release) (calls : List Call) → P (run release calls).graph) → (release : Release) (items : List Item) → P (in_hand release items)
in_hand_lem P h release items = let k = in_hand_comes release items in subst P (sym k.2) (h k.0 k.1)

pub in_hand_kept : (release : Release) (items : List Item) → MultiWf (in_hand release items)
in_hand_kept = in_hand_lem MultiWf run_kept
