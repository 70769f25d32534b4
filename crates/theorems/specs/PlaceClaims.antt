-- The words of `places_are_wires`: where an end that is answered, or given by a walk, stands, against the book.
use Rattle.std.specs.Prelude.{◌≡◌, true, false, ℕ, Some, Ok}
use Rattle.port_tables.specs.Lists.{Member}
use Rattle.multiportgraph.specs.Reading.{is_split, as_read, subport_of, port_place}
use Rattle.multi_tables.specs.Forms.{subport#}
use Rattle.multiportgraph.specs.Calls.{subport_link, cut_port, cut_sub}
use Rattle.port_tables.specs.Places.{Wire, spot, far_from}
use Rattle.multiportgraph.specs.Wires.{place_of, step_wires}
use Rattle.multiportgraph.specs.Walks.{step_front, step_back, step_links, step_connections}
use Rattle.multi_tables.specs.declared.answers.SubportIndex.{SubportIndex}
use Rattle.multi_tables.specs.declared.answers.SubportLink.{SubportLink}
use Rattle.multi_tables.specs.declared.answers.PortPlace.{PortPlace}
use Rattle.multiportgraph.specs.declared.iter.PortLinks.{PortLinks}
use Rattle.multiportgraph.specs.declared.iter.NodeLinks.{NodeLinks}
use Rattle.multiportgraph.specs.declared.iter.NodeConnections.{NodeConnections}
use Rattle.multiportgraph.specs.declared.iter.Wires.{Wires}
use Rattle.theorems.specs.Book.{spot_of}
use Rattle.theorems.specs.History.{State}
use Rattle.theorems.specs.AnswerClaims.{wire_between}

-- From one subport another is found, with a place: the book has the wire between the two, and the far end of that wire stands there.
pub record FarStands (s : State) (near far : SubportIndex) (x : PortPlace) : Type 0 where
  pub wire : Wire
  pub is : wire ≡ wire_between s.graph near far
  pub booked : Member wire s.book.wires
  pub stands : x ≡ port_place (far_from (place_of s.graph near).side wire)

-- a place is where the book has a port
abbrev pub OwnPlace : State → ℕ → PortPlace → Type 0
OwnPlace s p x = spot_of s.book.blocks p ≡ spot x.node.0 x.side x.position

-- Whatever is asked, cut or walked, with whatever numbers and cursor. The graph and the book are those before the call, so that the place
-- a cut answers is that of the wire that goes.
pub record PlacesAreWires (s : State) : Type 0 where
  pub asks : (p o : ℕ) (t : SubportIndex) (x : PortPlace) → subport_link s.graph p o ≡ Ok (Some (t, x)) → FarStands s (as_read s.graph p o) t x
  pub cuts_sub : (p o : ℕ) (t : SubportIndex) (x : PortPlace) → (cut_sub s.graph p o).answer ≡ Ok (Some (t, x)) → FarStands s (as_read s.graph p o) t x
  -- an unsplit port answers an inner port, with the place of its visible end
  pub cuts_plain : (p : ℕ) (u : SubportIndex) (x : PortPlace) → is_split s.graph p ≡ false → (cut_port s.graph p).answer ≡ Ok (Some (u, x)) →
      FarStands s (subport# p 0) (subport_of s.graph u.port.0) x
  -- a split port answers itself, with its own place
  pub cuts_split : (p : ℕ) (u : SubportIndex) (x : PortPlace) → is_split s.graph p ≡ true → (cut_port s.graph p).answer ≡ Ok (Some (u, x)) → OwnPlace s p x
  pub links : (c d : PortLinks) (w : SubportLink) → step_front s.graph c ≡ Some (w, d) → FarStands s w.from w.to w.place
  pub links_back : (c d : PortLinks) (w : SubportLink) → step_back s.graph c ≡ Some (w, d) → FarStands s w.from w.to w.place
  pub node_links : (c d : NodeLinks) (w : SubportLink) → step_links s.graph c ≡ Some (w, d) → FarStands s w.from w.to w.place
  pub connections : (c d : NodeConnections) (w : SubportLink) → step_connections s.graph c ≡ Some (w, d) → FarStands s w.from w.to w.place
  pub wires : (c d : Wires) (w : SubportLink) → step_wires s.graph c ≡ Some (w, d) → FarStands s w.from w.to w.place
