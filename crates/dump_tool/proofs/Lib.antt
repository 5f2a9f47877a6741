mod EntriesPut
