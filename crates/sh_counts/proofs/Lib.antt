mod FallLemmas
mod WayLemmas
